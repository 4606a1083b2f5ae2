-- A polynomial in Bernstein form, by its list of coefficients, and its value. Definitions only.
use Rattle.std.specs.Prelude.{ℕ, zero, suc, ◌-◌, List, [], ◌∷◌, cond, length, get_or, ltb, Float}
use Rattle.float.specs.Numbers.{◌⊕◌, ◌⊖◌, ◌⊗◌, 0f, 1f}

-- between x at t = 0 and y at t = 1
abbrev pub mix : Float → Float → Float → Float
mix t x y = x ⊗ (1f ⊖ t) ⊕ y ⊗ t

-- each coefficient mixed with the one behind it: a list one shorter
unfoldable pub casteljau_step : Float → List Float → List Float
casteljau_step t [] = []
casteljau_step t (x ∷ []) = []
casteljau_step t (x ∷ y ∷ r) = mix t x y ∷ casteljau_step t (y ∷ r)

-- that n times over
unfoldable pub casteljau_steps : Float → ℕ → List Float → List Float
casteljau_steps t zero c = c
casteljau_steps t (suc n) c = casteljau_steps t n (casteljau_step t c)

-- the one number to which the list comes down, and 0 for an empty list
abbrev pub value_of : List Float → Float → Float
value_of c t = get_or (casteljau_steps t (length c - 1) c) 0 0f

-- No coefficients, and more than 15, have the value 0.
unfoldable pub evaluate_of : List Float → Float → Float
evaluate_of c t = cond (ltb 15 (length c)) 0f (value_of c t)
