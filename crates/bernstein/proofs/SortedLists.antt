-- The sort gives a rearrangement that is in order by the total order of floats. Assumes nothing.
use mathlib.Core.Path.{◌≡◌, refl, sym, ◌∙◌}
use mathlib.Core.List.Perm
use mathlib.Core.List.{List, [], ◌∷◌, ◌++◌, append-nil, Perm, perm_middle}
use mathlib.Core.Bool.{Bool, true, false, cond}
use native.Mathlib.Omega.{arith}
use borrow.Author.Tests.{ltb-true, ltb-false, le-ltb}
use lib.Dec.{T}
use lib.Ieee.{Float, binary64, fits}
use Rattle.float.specs.Order.{before}
use Rattle.float.proofs.TotalOrder.{key, before_key}
use Rattle.bernstein.specs.Roots.{insert, sort_onto}
use Rattle.bernstein.specs.Sorted.{All, Fit, Ordered}

-- z does not stand before x, which stands before y, if it does not stand before y
not_before : (x y z : Float) → T (fits binary64 x) → T (fits binary64 y) → T (fits binary64 z) → before x y ≡ true → before z y ≡ false → before z x ≡ false
not_before x y z hx hy hz p q =
    let u = ltb-true (key x) (key y) (sym (before_key x y hx hy) ∙ p) in
    let v = ltb-false (key z) (key y) (sym (before_key z y hz hy) ∙ q) in
    before_key z x hz hx ∙ le-ltb (key z) (key x) (omega arith)

never_back : (x y : Float) → T (fits binary64 x) → T (fits binary64 y) → before x y ≡ true → before y x ≡ false
never_back x y hx hy p =
    let u = ltb-true (key x) (key y) (sym (before_key x y hx hy) ∙ p) in
    before_key y x hy hx ∙ le-ltb (key y) (key x) (omega arith)

cond_all : (P : Float → Type 0) (t : Bool) (a b : List Float) → All P a → All P b → All P (cond t a b)
cond_all P true a b h k = h
cond_all P false a b h k = k

insert_all : (P : Float → Type 0) (x : Float) (l : List Float) → P x → All P l → All P (insert x l)
unfolding insert
insert_all P x [] p h = (p, tt)
insert_all P x (y ∷ l) p h =
    cond_all P (before x y) (x ∷ insert y l) (y ∷ insert x l) (p, insert_all P y l h.0 h.1) (h.0, insert_all P x l p h.1)

none_before : (x y : Float) → T (fits binary64 x) → T (fits binary64 y) → before x y ≡ true → (l : List Float) → Fit l → All (λ z. before z y ≡ false) l → All (λ z. before z x ≡ false) l
none_before x y hx hy p [] f h = tt
none_before x y hx hy p (z ∷ l) f h = (not_before x y z hx hy f.0 p h.0, none_before x y hx hy p l f.1 h.1)

insert_in_order : (x : Float) (l : List Float) → T (fits binary64 x) → Fit l → Ordered l → Ordered (insert x l)
unfolding insert
insert_in_order x [] hx f h = (tt, tt)
insert_in_order x (y ∷ l) hx f h = go (before x y) refl (insert_in_order y l f.0 f.1 h.1) (insert_in_order x l hx f.1 h.1)
  where
    go : (t : Bool) → before x y ≡ t → Ordered (insert y l) → Ordered (insert x l) → Ordered (cond t (x ∷ insert y l) (y ∷ insert x l))
    go true e b a = (insert_all (λ z. before z x ≡ false) y l (never_back x y hx f.0 e) (none_before x y hx f.0 e l f.1 h.0), b)
    go false e b a = (insert_all (λ z. before z y ≡ false) x l e h.0, a)

sort_in_order : (s l : List Float) → Fit s → Fit l → Ordered s → Ordered (sort_onto s l)
unfolding sort_onto
sort_in_order s [] f g h = h
sort_in_order s (x ∷ l) f g h =
    sort_in_order (insert x s) l (insert_all (λ y. T (fits binary64 y)) x s g.0 f) g.1 (insert_in_order x s g.0 f h)

cond_perm : (t : Bool) (a b l : List Float) → Perm a l → Perm b l → Perm (cond t a b) l
cond_perm true a b l h k = h
cond_perm false a b l h k = k

insert_perm : (x : Float) (l : List Float) → Perm (insert x l) (x ∷ l)
unfolding insert
insert_perm x [] = Perm.refl (x ∷ [])
insert_perm x (y ∷ l) =
    cond_perm (before x y) (x ∷ insert y l) (y ∷ insert x l) (x ∷ y ∷ l)
    (Perm.cons x (insert_perm y l))
    (Perm.trans (Perm.cons y (insert_perm x l)) (Perm.swap x y l))

sort_perm : (s l : List Float) → Perm (sort_onto s l) (l ++ s)
unfolding sort_onto
sort_perm s [] = Perm.refl s
sort_perm s (x ∷ l) =
    Perm.trans (sort_perm (insert x s) l) (Perm.trans (Perm.append_left l (insert_perm x s)) (perm_middle l s))

-- ---- the theorem
pub sorted : (l : List Float) → Fit l → Ordered (sort_onto [] l) × Perm (sort_onto [] l) l
sorted l f = (sort_in_order [] l tt f tt, rw append-nil at (sort_perm [] l))
