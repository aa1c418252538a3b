-- The places of a fault: the least slot up to which a constraint is broken, and the first place that clashes with it.
-- Assumes nothing.
use Rattle.std.proofs.Common.{◌≡◌, ℕ, zero, suc, ◌+◌, ◌-◌, ◌<◌, ◌≤◌, cond, List, [], ◌∷◌, ◌++◌, length, take, Some, sym, refl, ap, ◌∙◌, subst, subst₂, inl, inr, ⊎_elim, arith}
use Rattle.std.specs.List.{slice_get}
use mathlib.Core.Logic.{⊎_map}
use Rattle.std.proofs.lemmas.List.{length-take, take_all}
use Rattle.std.proofs.lemmas.Bool.{cases_eq, cond_both}
use Rattle.std.proofs.lemmas.Bool.Decides.{not_from_Decides}
use Rattle.admission.specs.declared.instruction.Instruction.{Instruction}
use Rattle.admission.specs.Refusals.{Least}
use Rattle.runs.specs.declared.valuations.Valuations.{Valuations}
use Rattle.claims.specs.Landings.{port_claim, SamePort}
use Rattle.runs.specs.Valuations.{Meets}
use Rattle.claims.specs.Mutual.{same_unit_mutual, two_long_nops_mutual, same_data_path_mutual, nonaligned_pair_mutual, cross_operands_mutual, same_port_mutual}
use Rattle.hazards.specs.Counts.{CrossExcess, ReadExcess}
use Rattle.hazards.specs.Empty.{no_cross_excess, no_read_excess}
use Rattle.constraints.specs.declared.fault.Place.{Place}
use Rattle.constraints.specs.Schedules.{cycles, issue, Stands}
use Rattle.constraints.specs.Constraints.{WriteTogether, Beside, Clash, ClashAt, Breaks}
use Rattle.constraints.specs.Faults.{Later, FirstWith, Earlier}
use Rattle.constraints.proofs.Moving.{at_inside}
use Rattle.constraints.proofs.Reordering.{stands_push_cases, stands_before, stands_last, stands_inside}
use Rattle.decision.proofs.Deciding.{Test, scan, scan_least, scan_some}
use Rattle.decision.proofs.Breaking.{breaks, clash_at, clash_in, clash_with, slots_at, clash_packet, clash_slot, clash_inside}

-- what stands in the first of a list stands in the list
at_take : {X : Type 0} (m : ℕ) (xs : List X) (k : ℕ) → k < m → slice_get (take m xs) k ≡ slice_get xs k
at_take zero xs k h = absurd (omega arith)
at_take (suc m) [] k h = refl
at_take (suc m) (x ∷ xs) zero h = refl
at_take (suc m) (x ∷ xs) (suc k) h = at_take m xs k (omega arith)

at_taken : {X : Type 0} (m : ℕ) (xs : List X) (k : ℕ) (x : X) → slice_get (take m xs) k ≡ Some x → (k < m) × (slice_get xs k ≡ Some x)
at_taken m xs k x e = let l = length-take m xs in let i = at_inside (take m xs) k x e in let h : k < m = omega arith in (h, sym (at_take m xs k h) ∙ e)

-- a clash of two instructions of one packet is mutual
beside_mutual : (n : ℕ) (x y : Instruction) → Beside n x y → Beside n y x
beside_mutual n x y =
    ⊎_map (λ (e, c). (e, same_unit_mutual x y c))
    (⊎_map (λ (e, c). (e, two_long_nops_mutual x y c))
    (⊎_map (λ (e, c). (e, same_data_path_mutual x y c))
    (⊎_map (λ (e, c). (e, nonaligned_pair_mutual x y c)) (λ (e, c). (e, cross_operands_mutual x y c)))))

together_mutual : (x y : Instruction) (c d : ℕ) → WriteTogether x c y d → WriteTogether y d x c
together_mutual x y c d (v, w, a, b, r, t) = (w, v, b, a, sym r, sym t)

clash_mutual : (lawful start : Valuations) (past : List (List Instruction)) (n k : ℕ) (x y : Instruction) → k ≡ length past → Clash lawful start past n k x y → Clash lawful start past n k y x
clash_mutual lawful start past n k x y last =
    let e : issue past k ≡ cycles past = ap cycles (ap (λ (j : ℕ). take j past) last ∙ take_all (length past) past (omega arith)) in
    ⊎_map (λ (l, b). (l, beside_mutual n x y b))
    (⊎_map
    (λ (m, p). (m, subst₂ (λ (c d : ℕ). SamePort (port_claim y c) (port_claim x d)) (sym e) e (same_port_mutual (port_claim x (issue past k)) (port_claim y (cycles past)) p)))
    (λ (m, w, (run, r, a, b)). (
      m,
      subst₂ (λ (c d : ℕ). WriteTogether y c x d) (sym e) e (together_mutual x y (issue past k) (cycles past) w),
      (run, r, subst (λ (j : ℕ). Meets y.condition (run j)) (sym last) b, subst (λ (j : ℕ). Meets x.condition (run j)) last a),
    )))

module _ (lawful start : Valuations) (past : List (List Instruction)) (xs : List Instruction) (n : ℕ) where
  -- a clash among the slots up to one is a clash of the packet, and back
  clash_whole : (m k s t : ℕ) → ClashAt lawful start past (take (m + 1) xs) n k s t → ClashAt lawful start past xs n k s t × (t ≤ m) × (k ≡ length past → s ≤ m)
  clash_whole m k s t (x, y, st, at-t, apart, c) =
      let (ht, there) = at_taken (m + 1) xs t y at-t in
      let le : t ≤ m = omega arith in
      ⊎_elim
      (λ old. let lt = stands_inside past k s x old in ((x, y, stands_before past xs k s x old, there, apart, c), le, λ e. absurd (omega arith)))
      (λ (e, at-s). let (hs, here) = at_taken (m + 1) xs s x at-s in
      ((x, y, subst (λ (j : ℕ). Stands (past ++ xs ∷ []) j s x) (sym e) (stands_last past xs s x here), there, apart, c), le, λ _. let w : s ≤ m = omega arith in w))
      (stands_push_cases past (take (m + 1) xs) k s x st)

  clash_part : (m k s t : ℕ) → t ≤ m → (k ≡ length past → s ≤ m) → ClashAt lawful start past xs n k s t → ClashAt lawful start past (take (m + 1) xs) n k s t
  clash_part m k s t ht hs (x, y, st, at-t, apart, c) =
      ⊎_elim
      (λ old. (x, y, stands_before past (take (m + 1) xs) k s x old, at_take (m + 1) xs t (omega arith) ∙ at-t, apart, c))
      (λ (e, at-s). let le = hs e in (
        x,
        y,
        subst (λ (j : ℕ). Stands (past ++ take (m + 1) xs ∷ []) j s x) (sym e) (stands_last past (take (m + 1) xs) s x (at_take (m + 1) xs s (omega arith) ∙ at-s)),
        at_take (m + 1) xs t (omega arith) ∙ at-t,
        apart,
        c,
      )) (stands_push_cases past xs k s x st)

  clash_turned : (s t : ℕ) → ClashAt lawful start past xs n (length past) s t → ClashAt lawful start past xs n (length past) t s
  clash_turned s t (x, y, st, at-t, apart, c) =
      ⊎_elim (λ old. let lt = stands_inside past (length past) s x old in absurd (omega arith))
      (λ (_, at-s). (y, x, stands_last past xs t y at-t, at-s, λ e f. apart e (sym f), clash_mutual lawful start past n (length past) x y refl c))
      (stands_push_cases past xs (length past) s x st)

  -- a clash that the slots before m do not have is one with slot m
  clash_new : (m : ℕ) → ((j : ℕ) → j < m → Breaks lawful start past (take (j + 1) xs) n → ⊥) → (k s t : ℕ) → ClashAt lawful start past (take (m + 1) xs) n k s t
      → (l r : ℕ) × ClashAt lawful start past xs n l r m
  clash_new m none k s t c =
      let (whole, ht, hs) = clash_whole m k s t c in
      ⊎_elim (λ here. (k, s, subst (λ (u : ℕ). ClashAt lawful start past xs n k s u) here whole))
      (λ before. ⊎_elim
      (λ last. ⊎_elim
      (λ same. (length past, t, subst (λ (u : ℕ). ClashAt lawful start past xs n (length past) t u) same (clash_turned s t (subst (λ (j : ℕ). ClashAt lawful start past xs n j s t) last whole))))
      (λ apart. let h = hs last in absurd (none (m - 1) (omega arith) (inl (k, s, t, clash_part (m - 1) k s t (omega arith) (λ _. let w : s ≤ m - 1 = omega arith in w) whole)))) (cases_eq s m))
      (λ other. absurd (none (m - 1) (omega arith) (inl (k, s, t, clash_part (m - 1) k s t (omega arith) (λ e. absurd (other e)) whole)))) (cases_eq k (length past)))
      (cases_eq t m)

  -- some slot is there
  some_slot : Breaks lawful start past xs n → 0 < length xs
  some_slot b = ⊎_elim (λ (k, s, t, c). let h = clash_inside lawful start past xs n k s t c in omega arith) (⊎_elim (λ (_, c). cross_slot xs c) (λ (_, c). read_slot xs c)) b
    where
      cross_slot : (ys : List Instruction) → CrossExcess ys → 0 < length ys
      cross_slot [] c = absurd (no_cross_excess c)
      cross_slot (y ∷ ys) c = omega arith

      read_slot : (ys : List Instruction) → ReadExcess ys → 0 < length ys
      read_slot [] c = absurd (no_read_excess c)
      read_slot (y ∷ ys) c = omega arith

-- the later slot
abbrev pub later_slot : Valuations → Valuations → List (List Instruction) → List Instruction → ℕ → ℕ
later_slot lawful start past xs n = scan (λ m. (breaks lawful start past (take (m + 1) xs) n).passes) 0 (length xs)

-- the first packet that clashes with slot t, and its first slot that does
abbrev pub first_packet : Valuations → Valuations → List (List Instruction) → List Instruction → ℕ → ℕ → ℕ
first_packet lawful start past xs n t = scan (λ k. (clash_in lawful start past xs n t k).passes) 0 (length past + 1)

abbrev pub first_slot : Valuations → Valuations → List (List Instruction) → List Instruction → ℕ → ℕ → ℕ → ℕ
first_slot lawful start past xs n t k = scan (λ s. (clash_at lawful start past xs n k s t).passes) 0 (slots_at past xs k)

abbrev pub place_in : Valuations → Valuations → List (List Instruction) → List Instruction → ℕ → ℕ → ℕ → Place
place_in lawful start past xs n t k = record { packet = k; slot = first_slot lawful start past xs n t k }

abbrev pub earlier_place : Valuations → Valuations → List (List Instruction) → List Instruction → ℕ → ℕ → Place
earlier_place lawful start past xs n t =
    cond (clash_with lawful start past xs n t).passes (place_in lawful start past xs n t (first_packet lawful start past xs n t)) (record { packet = length past; slot = t })

module _ (lawful start : Valuations) (past : List (List Instruction)) (xs : List Instruction) (n : ℕ) where
  pub later_least : Breaks lawful start past xs n → Later lawful start past xs n (later_slot lawful start past xs n)
  later_least b =
      let P : ℕ → Type 0 = λ m. Breaks lawful start past (take (m + 1) xs) n in
      let f : (m : ℕ) → Test (P m) = λ m. breaks lawful start past (take (m + 1) xs) n in
      let some = some_slot lawful start past xs n b in
      let e : take (length xs - 1 + 1) xs ≡ xs = take_all (length xs - 1 + 1) xs (omega arith) in
      let whole : P (length xs - 1) = subst (λ (ys : List Instruction). Breaks lawful start past ys n) (sym e) b in
      let le = scan_some P f 0 (length xs) (length xs - 1) (omega arith) (omega arith) whole in
      (omega arith, scan_least P f 0 (length xs) (λ k p. omega arith) (omega arith))

  first_with : (t : ℕ) → (k s : ℕ) × ClashAt lawful start past xs n k s t
      → FirstWith lawful start past xs n t (first_packet lawful start past xs n t) (first_slot lawful start past xs n t (first_packet lawful start past xs n t))
  first_with t (k, s, c) =
      let P : ℕ → Type 0 = λ k. (s : ℕ) × ClashAt lawful start past xs n k s t in
      let f : (k : ℕ) → Test (P k) = clash_in lawful start past xs n t in
      let k₀ = first_packet lawful start past xs n t in
      let hk = clash_packet lawful start past xs n k s t c in
      let le = scan_some P f 0 (length past + 1) k (omega arith) (omega arith) (s, c) in
      let least : Least P k₀ = scan_least P f 0 (length past + 1) (λ k p. omega arith) (omega arith) in
      let (s₁, c₁) = least.0 in
      let Q : ℕ → Type 0 = λ s. ClashAt lawful start past xs n k₀ s t in
      let g : (s : ℕ) → Test (Q s) = λ s. clash_at lawful start past xs n k₀ s t in
      let hs = clash_slot lawful start past xs n k₀ s₁ t c₁ in
      let le₁ = scan_some Q g 0 (slots_at past xs k₀) s₁ (omega arith) (omega arith) c₁ in
      let least₁ : Least Q (first_slot lawful start past xs n t k₀) = scan_least Q g 0 (slots_at past xs k₀) (λ k p. omega arith) (omega arith) in (
        least₁.0,
        λ l r before c₂. ⊎_elim (λ lt. least.1 l lt (r, c₂)) (λ (e, lt). least₁.1 r lt (subst (λ (j : ℕ). ClashAt lawful start past xs n j r t) e c₂)) before,
      )

  pub earlier_first : (t : ℕ) → Later lawful start past xs n t
      → Earlier lawful start past xs n t (earlier_place lawful start past xs n t).packet (earlier_place lawful start past xs n t).slot
  earlier_first t (inside, (broken, least)) =
      let w = clash_with lawful start past xs n t in
      cond_both w.passes (place_in lawful start past xs n t (first_packet lawful start past xs n t)) (record { packet = length past; slot = t })
      (λ (p : Place). Earlier lawful start past xs n t p.packet p.slot)
      (λ yes. inl (first_with t (w.decides.0 yes)))
      (λ no. inr (⊎_elim (λ (k, s, u, c). absurd (not_from_Decides w.passes w.decides no (clash_new lawful start past xs n t least k s u c))) (⊎_map (λ (e, _). e) (λ (e, _). e)) broken, refl, refl))
