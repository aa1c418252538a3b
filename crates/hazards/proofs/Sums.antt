-- A sum that stops at a number, and the mentions of a register by places. Assumes nothing.
use Rattle.std.proofs.Common.{◌≡◌, ℕ, ◌+◌, ◌<◌, ◌≤◌, min, cond, eqb, ltb, List, [], ◌∷◌, ◌++◌, get_or, Some, None, Decides, sum_by, count_by, Option, sym, refl, ap, ◌∙◌, ap₂, arith, ltb-true, lt-ltb}
use Rattle.std.proofs.lemmas.List.Sums.{sum_by-cons}
use Rattle.std.specs.List.{fold}
use Rattle.isa.specs.declared.register.Register.{Register}
use Rattle.admission.specs.declared.instruction.Instruction.{Instruction}
use Rattle.isa.specs.declared.width.Width.{Width}
use Rattle.isa.specs.declared.width.Width.TheVariants.{Absent, Single, Pair}
use Rattle.isa.specs.Registers.{odd_of}
use Rattle.std.specs.Option.{option_map}
use Rattle.admission.specs.Operands.{halves, present, stored_width, read_places}
use Rattle.hazards.specs.Counts.{names}

capped_from : (f : Instruction → ℕ) (m n : ℕ) (xs : List Instruction) → n ≤ m → fold (λ s x. min (s + f x) m) n xs ≡ min (n + sum_by f xs) m
capped_from f m n [] h = omega arith
capped_from f m n (x ∷ xs) h = let e = capped_from f m (min (n + f x) m) xs (omega arith) in let s = sum_by-cons f x xs in omega arith

pub capped_decides : (f : Instruction → ℕ) (xs : List Instruction) (u k l m : ℕ) → k < m → l ≡ k → u ≡ fold (λ s x. min (s + f x) m) 0 xs → Decides (ltb l u) (k < sum_by f xs)
capped_decides f xs u k l m small same e =
    let whole = capped_from f m 0 xs (omega arith) in
    (λ t. let lt = ltb-true l u t in omega arith, λ lt. lt-ltb l u (omega arith))

-- the places that have a register, and the mentions of it
pub named_places : (r : Register) (os : List (Option Register)) → count_by (names r) os ≡ count_by (λ q. eqb q.number r.number) (present os)
named_places r [] = refl
named_places r (None ∷ os) = let e = sum_by-cons (λ o. cond (names r o) 1 0) None os in let f = named_places r os in omega arith
named_places r (Some q ∷ os) =
    let e = sum_by-cons (λ o. cond (names r o) 1 0) (Some q) os in
    let f = named_places r os in
    let g = sum_by-cons (λ x. cond (eqb x.number r.number) 1 0) q (present os) in
    omega arith

-- the first six of a list
abbrev pub front : List (Option Register) → List (Option Register)
front l = get_or l 0 None ∷ get_or l 1 None ∷ get_or l 2 None ∷ get_or l 3 None ∷ get_or l 4 None ∷ get_or l 5 None ∷ []

abbrev Two : List (Option Register) → Type 0
Two h = (a b : Option Register) × (h ≡ a ∷ b ∷ [])

two : (w : Width) (o : Option Register) → Two (halves w o)
two Absent o = (None, None, refl)
two Single o = (o, None, refl)
two Pair o = (o, option_map odd_of o, refl)

front_six : (h k l : List (Option Register)) → Two h → Two k → Two l → front (h ++ (k ++ l)) ≡ h ++ (k ++ l)
front_six h k l (a, b, e) (c, d, f) (m, n, g) =
    let join : h ++ (k ++ l) ≡ a ∷ b ∷ c ∷ d ∷ m ∷ n ∷ [] = ap₂ (λ x y. x ++ y) e (ap₂ (λ x y. x ++ y) f g) in
    ap front join ∙ sym join

pub front_reads : (i : Instruction) → front (read_places i) ≡ read_places i
front_reads i = front_six _ _ _ (two i.row.s1 i.s1) (two i.row.s2 i.s2) (two (stored_width i.row.class i.row.dst) i.dst)
