-- The reads by their places, and by the registers that are covered. Assumes nothing.
use Rattle.std.proofs.Common.{◌≡◌, List, [], ◌∷◌, ◌++◌, get_or, Some, None, Option, refl, ap, ◌∙◌}
use Rattle.isa.specs.declared.register.Register.{Register}
use Rattle.isa.specs.declared.width.Width.{Width}
use Rattle.isa.specs.declared.width.Width.TheVariants.{Absent, Single, Pair}
use Rattle.admission.specs.Operands.{covered, halves, present}

-- the two places of an operand, before others
front : (w : Width) (o : Option Register) (h l m : List (Option Register)) → h ≡ halves w o → l ≡ m → get_or h 0 None ∷ get_or h 1 None ∷ l ≡ halves w o ++ m
front w o h l m e f = ap (λ x. get_or x 0 None ∷ get_or x 1 None ∷ l) e ∙ ap (λ x. get_or (halves w o) 0 None ∷ get_or (halves w o) 1 None ∷ x) f ∙ by_width w
  where
    by_width : (w : Width) → get_or (halves w o) 0 None ∷ get_or (halves w o) 1 None ∷ m ≡ halves w o ++ m
    by_width Absent = refl
    by_width Single = refl
    by_width Pair = refl

last : (w : Width) (o : Option Register) (h : List (Option Register)) → h ≡ halves w o → get_or h 0 None ∷ get_or h 1 None ∷ [] ≡ halves w o
last Absent o h e = ap (λ x. get_or x 0 None ∷ get_or x 1 None ∷ []) e
last Single o h e = ap (λ x. get_or x 0 None ∷ get_or x 1 None ∷ []) e
last Pair o h e = ap (λ x. get_or x 0 None ∷ get_or x 1 None ∷ []) e

present_front : (w : Width) (o : Option Register) (l : List (Option Register)) → present (halves w o ++ l) ≡ covered w o ++ present l
present_front Absent o l = refl
present_front Single None l = refl
present_front Single (Some r) l = refl
present_front Pair None l = refl
present_front Pair (Some r) l = refl

present_last : (w : Width) (o : Option Register) → present (halves w o) ≡ covered w o
present_last Absent o = refl
present_last Single None = refl
present_last Single (Some r) = refl
present_last Pair None = refl
present_last Pair (Some r) = refl

module _ (w v u : Width) (o p q : Option Register) where
  pub six : (h k l : List (Option Register)) → h ≡ halves w o → k ≡ halves v p → l ≡ halves u q → get_or h 0 None ∷ get_or h 1 None ∷ get_or k 0 None ∷ get_or k 1 None ∷ get_or l 0 None ∷ get_or l 1 None ∷ [] ≡ halves w o ++ (halves v p ++ halves u q)
  six h k l e f g = front w o h _ _ e (front v p k _ _ f (last u q l g))

  pub six_present : present (halves w o ++ (halves v p ++ halves u q)) ≡ covered w o ++ (covered v p ++ covered u q)
  six_present = present_front w o _ ∙ ap (λ l. covered w o ++ l) (present_front v p _ ∙ ap (λ l. covered v p ++ l) (present_last u q))
