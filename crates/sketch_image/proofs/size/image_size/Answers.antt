use Rattle.std.proofs.Common.{le-leb, ⊎_elim}
use borrow.Author.Tests.{lt-leb}
use Rattle.sketch_image.proofs.size.image_size.Goals as goal

pub returns-then-np-gt512 : goal.returns-then-np-gt512
returns-then-np-gt512 c =
    let a = c.args in
    ⊎_elim
    (λ l. simp (lt-leb a.np 512 l))
    (⊎_elim (λ l. simp (le-leb a.np 512 l.0, lt-leb a.nc 128 l.1)) (λ l. simp (le-leb a.np 512 l.0, le-leb a.nc 128 l.1, lt-leb a.nr 256 l.2)))
    c.then-np-gt512.either

pub returns : goal.returns
returns c = simp (le-leb _ _ c.if-np-gt512.false, le-leb _ _ c.if-nc-gt128.false, le-leb _ _ c.if-nr-gt256.false)
