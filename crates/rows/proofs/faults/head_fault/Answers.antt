use Rattle.std.proofs.Common.{le-leb, eq-eqb, ne_eqb}
use Rattle.image.specs.Image.{head_fault}
use Rattle.sketch.specs.Lists.{guard_number}
use borrow.Author.Tests.{lt-leb}
use Rattle.rows.proofs.faults.head_fault.Goals as goal
use Rattle.rows.proofs.faults.head_fault.Goals.{then-n-lt-HEADER_SIZE-via-then-n-lt-HEADER_SIZE, then-n-lt-HEADER_SIZE-via-else-n-lt-HEADER_SIZE+then-get4-n, then-np-gt512-via-then-np-gt512, then-np-gt512-via-else-np-gt512+then-nc-gt128, then-np-gt512-via-else-np-gt512+else-nc-gt128+then-nr-gt256}

pub returns-then-n-lt5 : goal.returns-then-n-lt5
unfolding head_fault guard_number
returns-then-n-lt5 c = simp (lt-leb _ _ c.if-n-lt5.true)

pub returns-then-get1-ne-IMAGE_VERSION : goal.returns-then-get1-ne-IMAGE_VERSION
unfolding head_fault guard_number
returns-then-get1-ne-IMAGE_VERSION c = simp (ne_eqb _ _ c.if-get1-ne-IMAGE_VERSION.true, ← c.get1.ensures, le-leb _ _ c.if-n-lt5.false)

pub returns-then-n-lt-HEADER_SIZE : goal.returns-then-n-lt-HEADER_SIZE
unfolding head_fault guard_number
returns-then-n-lt-HEADER_SIZE c =
    elim c.then-n-lt-HEADER_SIZE.branch [
      | then-n-lt-HEADER_SIZE-via-then-n-lt-HEADER_SIZE w ↦ simp (lt-leb _ _ w.if-n-lt-HEADER_SIZE.true, eq-eqb _ _ c.if-get1-ne-IMAGE_VERSION.false, ← c.get1.ensures, le-leb _ _ c.if-n-lt5.false)
      | then-n-lt-HEADER_SIZE-via-else-n-lt-HEADER_SIZE+then-get4-n w ↦ simp (ne_eqb _ _ w.if-get4-n.true, ← w.get4.ensures, le-leb _ _ w.if-n-lt-HEADER_SIZE.false, eq-eqb _ _ c.if-get1-ne-IMAGE_VERSION.false, ← c.get1.ensures, le-leb _ _ c.if-n-lt5.false)
    ]

pub returns-then-np-gt512 : goal.returns-then-np-gt512
unfolding head_fault guard_number
returns-then-np-gt512 c =
    elim c.then-np-gt512.branch [
      | then-np-gt512-via-then-np-gt512 w ↦ simp (lt-leb _ _ w.if-np-gt512.true, ← c.get2-np.ensures, eq-eqb _ _ c.if-get4-n.false, ← c.get4.ensures, le-leb _ _ c.if-n-lt-HEADER_SIZE.false, eq-eqb _ _ c.if-get1-ne-IMAGE_VERSION.false, ← c.get1.ensures, le-leb _ _ c.if-n-lt5.false)
      | then-np-gt512-via-else-np-gt512+then-nc-gt128 w ↦ simp (lt-leb _ _ w.if-nc-gt128.true, ← c.get2-nc.ensures, le-leb _ _ w.if-np-gt512.false, ← c.get2-np.ensures, eq-eqb _ _ c.if-get4-n.false, ← c.get4.ensures, le-leb _ _ c.if-n-lt-HEADER_SIZE.false, eq-eqb _ _ c.if-get1-ne-IMAGE_VERSION.false, ← c.get1.ensures, le-leb _ _ c.if-n-lt5.false)
      | then-np-gt512-via-else-np-gt512+else-nc-gt128+then-nr-gt256 w ↦ simp (lt-leb _ _ w.if-nr-gt256.true, ← c.get2-nr.ensures, le-leb _ _ w.if-nc-gt128.false, ← c.get2-nc.ensures, le-leb _ _ w.if-np-gt512.false, ← c.get2-np.ensures, eq-eqb _ _ c.if-get4-n.false, ← c.get4.ensures, le-leb _ _ c.if-n-lt-HEADER_SIZE.false, eq-eqb _ _ c.if-get1-ne-IMAGE_VERSION.false, ← c.get1.ensures, le-leb _ _ c.if-n-lt5.false)
    ]

pub returns-then-np-nc : goal.returns-then-np-nc
unfolding head_fault guard_number
returns-then-np-nc c = simp (ne_eqb _ _ c.if-np-nc.true, le-leb _ _ c.if-nr-gt256.false, ← c.get2-nr.ensures, le-leb _ _ c.if-nc-gt128.false, ← c.get2-nc.ensures, le-leb _ _ c.if-np-gt512.false, ← c.get2-np.ensures, eq-eqb _ _ c.if-get4-n.false, ← c.get4.ensures, le-leb _ _ c.if-n-lt-HEADER_SIZE.false, eq-eqb _ _ c.if-get1-ne-IMAGE_VERSION.false, ← c.get1.ensures, le-leb _ _ c.if-n-lt5.false)

pub returns-then-next_id-lt1 : goal.returns-then-next_id-lt1
unfolding head_fault guard_number
returns-then-next_id-lt1 c = simp (lt-leb _ _ c.if-next_id-lt1.true, ← c.next_id.ensures, eq-eqb _ _ c.if-np-nc.false, le-leb _ _ c.if-nr-gt256.false, ← c.get2-nr.ensures, le-leb _ _ c.if-nc-gt128.false, ← c.get2-nc.ensures, le-leb _ _ c.if-np-gt512.false, ← c.get2-np.ensures, eq-eqb _ _ c.if-get4-n.false, ← c.get4.ensures, le-leb _ _ c.if-n-lt-HEADER_SIZE.false, eq-eqb _ _ c.if-get1-ne-IMAGE_VERSION.false, ← c.get1.ensures, le-leb _ _ c.if-n-lt5.false)

pub returns : goal.returns
unfolding head_fault guard_number
returns c = simp (le-leb _ _ c.if-next_id-lt1.false, ← c.next_id.ensures, eq-eqb _ _ c.if-np-nc.false, le-leb _ _ c.if-nr-gt256.false, ← c.get2-nr.ensures, le-leb _ _ c.if-nc-gt128.false, ← c.get2-nc.ensures, le-leb _ _ c.if-np-gt512.false, ← c.get2-np.ensures, eq-eqb _ _ c.if-get4-n.false, ← c.get4.ensures, le-leb _ _ c.if-n-lt-HEADER_SIZE.false, eq-eqb _ _ c.if-get1-ne-IMAGE_VERSION.false, ← c.get1.ensures, le-leb _ _ c.if-n-lt5.false)
