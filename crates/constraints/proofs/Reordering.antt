-- Packets in another order of their slots: they issue and last as before, the same writes land, the same runs pass, and the same constraints are broken.
-- Assumes nothing.
use Rattle.std.proofs.Common.{◌≡◌, ℕ, ◌+◌, ◌<◌, ◌≤◌, ◌⊎◌, List, [], ◌∷◌, ◌++◌, length, take, Some, sym, refl, ◌∙◌, subst, ap₂, subst₂, inl, inr, ⊎_elim, arith}
use Rattle.std.specs.List.{slice_get}
use mathlib.Core.Logic.{⊎_map}
use Rattle.std.specs.List.Sorted.{IsPermutation}
use Rattle.std.specs.List.{AllZip, AllByRecursion as All}
use Rattle.std.proofs.lemmas.List.Sorted.{IsPermutation-sym, sum_by-IsPermutation}
use Rattle.std.proofs.ByRecursion.{all_shuffled, All-weaker}
use Rattle.std.proofs.lemmas.List.Elements.{length_all_zip}
use Rattle.std.proofs.lemmas.List.Sums.{sum_by-cons}
use Rattle.isa.specs.declared.condition.Condition.{Condition}
use Rattle.admission.specs.declared.instruction.Instruction.{Instruction}
use Rattle.admission.specs.declared.instruction.Write.{Write}
use Rattle.runs.specs.declared.valuations.Valuations.{Valuations}
use Rattle.runs.specs.Runs.{Run, Both}
use Rattle.claims.specs.Landings.{port_claim, SamePort}
use Rattle.hazards.specs.Counts.{cross_use, CrossExcess, mentions, ReadExcess}
use Rattle.hazards.specs.Lengths.{nop_cycles, packet_length}
use Rattle.hazards.proofs.Longest.{at_least_one}
use Rattle.constraints.specs.Schedules.{cycles, issue, Stands, Lands, May, Stalls}
use Rattle.constraints.specs.Constraints.{WriteTogether, PerformsBoth, ClashInFlight, Clash, ClashAt, Breaks}
use Rattle.constraints.specs.Order.{SlotOrderFree}
use Rattle.constraints.proofs.Moving.{at_inside, at_append_left, at_push, at_push_cases, Moved, moved, each_take, each_at}

-- the length of a packet is the least number, from 1 on, that no count of its NOPs is above
pub length_above : (xs : List Instruction) → All (λ i. nop_cycles i ≤ packet_length xs) xs
length_above [] = tt
length_above (x ∷ xs) =
    (omega arith, All-weaker (λ i. nop_cycles i ≤ packet_length xs) (λ i. nop_cycles i ≤ packet_length (x ∷ xs)) (λ i h. omega arith) xs (length_above xs))

pub length_least : (n : ℕ) (xs : List Instruction) → 1 ≤ n → All (λ i. nop_cycles i ≤ n) xs → packet_length xs ≤ n
length_least n [] h a = h
length_least n (x ∷ xs) h a = omega (arith, a.0, length_least n xs h a.1)

pub length_stays : (xs xs' : List Instruction) → IsPermutation xs xs' → packet_length xs' ≡ packet_length xs
length_stays xs xs' s =
    omega (
      arith,
      length_least (packet_length xs') xs (at_least_one xs') (all_shuffled (λ i. nop_cycles i ≤ packet_length xs') xs' xs (IsPermutation-sym xs xs' s) (length_above xs')),
      length_least (packet_length xs) xs' (at_least_one xs) (all_shuffled (λ i. nop_cycles i ≤ packet_length xs) xs xs' s (length_above xs)),
    )

pub cycles_stay : (ps ps' : List (List Instruction)) → AllZip IsPermutation ps ps' → cycles ps' ≡ cycles ps
cycles_stay [] [] e = refl
cycles_stay [] (y ∷ ps') e = absurd e
cycles_stay (x ∷ ps) [] e = absurd e
cycles_stay (x ∷ ps) (y ∷ ps') e =
    sum_by-cons packet_length y ps' ∙ ap₂ ◌+◌ (length_stays x y e.0) (cycles_stay ps ps' e.1) ∙ sym (sum_by-cons packet_length x ps)

pub issue_stays : (ps ps' : List (List Instruction)) (k : ℕ) → AllZip IsPermutation ps ps' → issue ps' k ≡ issue ps k
issue_stays ps ps' k e = cycles_stay (take k ps) (take k ps') (each_take IsPermutation k ps ps' e)

-- where an instruction stands, it stands in some slot of the same packet
pub stands_stay : (ps ps' : List (List Instruction)) (k s : ℕ) (i : Instruction) → AllZip IsPermutation ps ps' → Stands ps k s i → (t : ℕ) × Stands ps' k t i
stands_stay ps ps' k s i e (p, there, here) =
    let (q, inside, shuffled) = each_at IsPermutation ps ps' k p e there in
    let m = moved p q shuffled in
    (m.to s, (q, inside, m.same s i here))

-- in packets with one more at their end: where it stood before, or in the one more
pub stands_push_cases : (ps : List (List Instruction)) (xs : List Instruction) (k s : ℕ) (i : Instruction) → Stands (ps ++ xs ∷ []) k s i
    → Stands ps k s i ⊎ ((k ≡ length ps) × (slice_get xs s ≡ Some i))
stands_push_cases ps xs k s i (p, there, here) =
    ⊎_elim (λ a. inl (p, a, here)) (λ a. inr (a.0, subst (λ q. slice_get q s ≡ Some i) (sym a.1) here)) (at_push_cases ps xs k p there)

pub stands_before : (ps : List (List Instruction)) (xs : List Instruction) (k s : ℕ) (i : Instruction) → Stands ps k s i → Stands (ps ++ xs ∷ []) k s i
stands_before ps xs k s i (p, there, here) = (p, at_append_left ps (xs ∷ []) k (at_inside ps k p there) ∙ there, here)

pub stands_last : (ps : List (List Instruction)) (xs : List Instruction) (s : ℕ) (i : Instruction) → slice_get xs s ≡ Some i → Stands (ps ++ xs ∷ []) (length ps) s i
stands_last ps xs s i here = (xs, at_push ps xs, here)

pub stands_inside : (ps : List (List Instruction)) (k s : ℕ) (i : Instruction) → Stands ps k s i → k < length ps
stands_inside ps k s i (p, there, here) = at_inside ps k p there

pub lands_stay : (ps ps' : List (List Instruction)) (c : ℕ) (w : Write) → AllZip IsPermutation ps ps' → Lands ps c w → Lands ps' c w
lands_stay ps ps' c w e (k, s, i, stands, writes, when) =
    let (t, there) = stands_stay ps ps' k s i e stands in
    (k, t, i, there, writes, omega (arith, when, issue_stays ps ps' k e))

pub may_stays : (ps ps' : List (List Instruction)) (k i : ℕ) → AllZip IsPermutation ps ps' → May ps k i → May ps' k i
may_stays ps ps' k i e (c, w, lands, low, high, tested) =
    (c, w, lands_stay ps ps' c w e lands, omega (arith, low, issue_stays ps ps' k e), omega (arith, high, issue_stays ps ps' (k + 1) e), tested)

-- what is a run through packets is one through them in another order
pub run_stays : (lawful start : Valuations) (ps ps' : List (List Instruction)) (n : ℕ) (run : ℕ → ℕ) → AllZip IsPermutation ps ps'
    → Run lawful start (May ps) n run → Run lawful start (May ps') n run
run_stays lawful start ps ps' n run e r =
    record { begins = r.begins; each = r.each; next = λ k i hk hi d. may_stays ps ps' k i e (r.next k i hk hi d) }

pub both_stays : (lawful start : Valuations) (ps ps' : List (List Instruction)) (n j : ℕ) (c : Condition) (k : ℕ) (d : Condition) → AllZip IsPermutation ps ps'
    → Both lawful start (May ps) n j c k d → Both lawful start (May ps') n j c k d
both_stays lawful start ps ps' n j c k d e (run, r, first, second) = (run, run_stays lawful start ps ps' n run e r, first, second)

pub stalls_stay : (past past' : List (List Instruction)) (xs xs' : List Instruction) → AllZip IsPermutation past past' → IsPermutation xs xs' → Stalls past xs → Stalls past' xs'
stalls_stay past past' xs xs' e s (t, c, x, w, here, cross, source, lands, load, when) =
    let m = moved xs xs' s in
    (m.to t, c, x, w, m.same t x here, cross, source, lands_stay past past' c w e lands, load, omega (arith, when, cycles_stay past past' e))

pub cross_stays : (xs xs' : List Instruction) → IsPermutation xs xs' → CrossExcess xs → CrossExcess xs'
cross_stays xs xs' s (side, h) = (side, omega (arith, h, sum_by-IsPermutation (cross_use side) xs xs' s))

pub reads_stay : (xs xs' : List Instruction) → IsPermutation xs xs' → ReadExcess xs → ReadExcess xs'
reads_stay xs xs' s (r, h) = (r, omega (arith, h, sum_by-IsPermutation (mentions r) xs xs' s))

module _ (lawful start : Valuations) (past past' : List (List Instruction)) (e : AllZip IsPermutation past past') where
  pub performs_stays : (k : ℕ) (x y : Instruction) → PerformsBoth lawful start past k x y → PerformsBoth lawful start past' k x y
  performs_stays k x y b =
      subst (λ (n : ℕ). Both lawful start (May past') n k x.condition n y.condition) (length_all_zip IsPermutation past past' e)
      (both_stays lawful start past past' (length past) k x.condition (length past) y.condition e b)

  pub flight_stays : (n k : ℕ) (x y : Instruction) → ClashInFlight lawful start past n k x y → ClashInFlight lawful start past' n k x y
  flight_stays n k x y =
      let first : issue past k ≡ issue past' k = sym (issue_stays past past' k e) in
      let second : cycles past ≡ cycles past' = sym (cycles_stay past past' e) in
      ⊎_map (λ h. (h.0, subst₂ (λ (c d : ℕ). SamePort (port_claim x c) (port_claim y d)) first second h.1))
      (λ h. (h.0, subst₂ (λ (c d : ℕ). WriteTogether x c y d) first second h.1, performs_stays k x y h.2))

  pub clash_stays : (n k : ℕ) (x y : Instruction) → Clash lawful start past n k x y → Clash lawful start past' n k x y
  clash_stays n k x y = ⊎_map (λ h. (h.0 ∙ length_all_zip IsPermutation past past' e, h.1)) (flight_stays n k x y)

-- two instructions that clash stand in slots of the same packets again, and not in one place
pub clash_at_stays : (lawful start : Valuations) (past past' : List (List Instruction)) (xs xs' : List Instruction) → AllZip IsPermutation past past' → IsPermutation xs xs'
    → (n k s t : ℕ) → ClashAt lawful start past xs n k s t → (s' t' : ℕ) × ClashAt lawful start past' xs' n k s' t'
clash_at_stays lawful start past past' xs xs' e shuffled n k s t (x, y, stands, here, apart, clash) =
    ⊎_elim accepted behind (stands_push_cases past xs k s x stands)
  where
    m : Moved xs xs'
    m = moved xs xs' shuffled

    again : Clash lawful start past' n k x y
    again = clash_stays lawful start past past' e n k x y clash

    accepted : Stands past k s x → (s' t' : ℕ) × ClashAt lawful start past' xs' n k s' t'
    accepted before =
        let (s', there) = stands_stay past past' k s x e before in
        let not_last : k ≡ length past' → s' ≡ m.to t → ⊥ = λ last _. absurd (omega (arith, stands_inside past' k s' x there)) in
        (s', m.to t, (x, y, stands_before past' xs' k s' x there, m.same t y here, not_last, again))

    behind : (k ≡ length past) × (slice_get xs s ≡ Some x) → (s' t' : ℕ) × ClashAt lawful start past' xs' n k s' t'
    behind (last, place) =
        let there = stands_last past' xs' (m.to s) x (m.same s x place) in
        let stays = subst (λ (j : ℕ). Stands (past' ++ xs' ∷ []) j (m.to s) x) (sym (last ∙ length_all_zip IsPermutation past past' e)) there in
        (m.to s, m.to t, (x, y, stays, m.same t y here, (λ _ one. m.apart s t (apart last) one), again))

pub breaks_stays : (lawful start : Valuations) (past past' : List (List Instruction)) (xs xs' : List Instruction) → AllZip IsPermutation past past' → IsPermutation xs xs'
    → (n : ℕ) → Breaks lawful start past xs n → Breaks lawful start past' xs' n
breaks_stays lawful start past past' xs xs' e shuffled n =
    ⊎_map (λ (k, s, t, h). let (s', t', h') = clash_at_stays lawful start past past' xs xs' e shuffled n k s t h in (k, s', t', h'))
    (⊎_map (λ h. (h.0, cross_stays xs xs' shuffled h.1)) (λ h. (h.0, reads_stay xs xs' shuffled h.1)))

-- the whole law
pub slot_order_free : SlotOrderFree
slot_order_free = record { breaks = breaks_stays; stalls = stalls_stay; lasts = length_stays; issues = cycles_stay }
