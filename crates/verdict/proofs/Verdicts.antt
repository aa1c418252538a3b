-- A fault by its places, and constraint after constraint. Assumes nothing.
use Rattle.std.proofs.Common.{◌≡◌, ℕ, ◌+◌, ◌-◌, ◌<◌, ◌≤◌, ◌⊎◌, List, ◌++◌, length, take, drop, IsErrAnd, Err, Result, sym, refl, ap, ◌∙◌, subst, ap₂, inl, inr, ⊎_elim, arith, MatchResult}
use Rattle.std.proofs.lemmas.List.{length-map, take_all, take_rest, drop-map, drop_at}
use Rattle.std.proofs.lemmas.List.Sums.{sum_by-take-le}
use Rattle.std.proofs.lemmas.Bool.{cases_lt, cases_eq}
use Rattle.std.proofs.lemmas.Result.{err_from_is_err_and}
use Rattle.isa.specs.declared.refusal.Refusal.{Refusal}
use Rattle.isa.specs.Refusals.{number}
use Rattle.admission.specs.declared.instruction.Instruction.{Instruction}
use Rattle.runs.specs.declared.valuations.Valuations.{Valuations}
use Rattle.claims.specs.Claims.{FreeFrom}
use Rattle.hazards.specs.Counts.{cross_use, CrossExcess, mentions, ReadExcess}
use Rattle.constraints.specs.declared.fault.Place.{Place}
use Rattle.constraints.specs.declared.fault.Fault.{Fault}
use Rattle.constraints.specs.Constraints.{ClashAt, Breaks}
use Rattle.constraints.specs.Faults.{RefusedWith}
use Rattle.constraints.specs.Schedules.{cycles}
use Rattle.flight.specs.declared.issued.InFlight.{InFlight}
use Rattle.flight.specs.declared.history.History.{History}
use Rattle.flight.specs.Issues.{slots, positions, kept}
use Rattle.flight.specs.Kept.{FlightOf, StandsFor}
use Rattle.flight.proofs.Keeping.{length_slots}
use Rattle.flight.proofs.Stepping.{issues}
use Rattle.verdict.specs.Search.{FirstFault, SlotFault}
use Rattle.verdict.specs.Parts.{Passes, FaultFrom}
use Rattle.verdict.proofs.Meanings.{beside_none}
use Rattle.verdict.proofs.Finding.{Lined, Says, kept_from, found_packet, found_broken, found_later, found_earlier}

-- what holds of a fault by its fields
by_fields : (P : Fault → Type 0) (f : Fault) (r : Refusal) (l e : Place) → f.refusal ≡ r → f.later ≡ l → f.earlier ≡ e → P (record { refusal = r; later = l; earlier = e }) → P f
by_fields P f r l e er el ee h =
    subst (λ (x : Refusal). P (record { refusal = x; later = f.later; earlier = f.earlier })) (sym er)
    (subst (λ (x : Place). P (record { refusal = r; later = x; earlier = f.earlier })) (sym el)
    (subst (λ (x : Place). P (record { refusal = r; later = l; earlier = x })) (sym ee) h))

-- the exit of a `?`
pub exit : {X : Type 0} (P : X → Type 0) (Q : Fault → Type 0) (r : Result X Fault) (e : Fault) → IsErrAnd r (λ y. y ≡ e) → Q e → MatchResult r P Q
exit {X} P Q r e by q = let p = err_from_is_err_and r by in subst (λ (x : Result X Fault). MatchResult x P Q) (sym (p.1 ∙ ap Err p.2)) q

module _ (lawful start : Valuations) (past : List (List Instruction)) (xs : List Instruction) where
  pub passes_none : (n : ℕ) → Passes lawful start past xs n n
  passes_none n m le lt b = omega arith

  pub passes_more : (low n : ℕ) → Passes lawful start past xs low n → (Breaks lawful start past xs n → ⊥) → Passes lawful start past xs low (n + 1)
  passes_more low n before here m le lt b =
      ⊎_elim (λ e. here (subst (Breaks lawful start past xs) e b)) (λ apart. before m le (omega arith) b) (cases_eq m n)

  module _ (zs : List InFlight) (f : ℕ) (lined : Lined past xs zs f) (refusal : Refusal) (paired : (number refusal ≡ 16 → ⊥) × (number refusal ≡ 17 → ⊥))
      (Meet : InFlight → InFlight → Type 0) (says : Says lawful start past xs zs f (number refusal) Meet) where
    pub keeps : FreeFrom Meet zs f (length zs) → Breaks lawful start past xs (number refusal) → ⊥
    keeps = kept_from lawful start past xs zs f lined (number refusal) paired Meet says

    pub fault_of : (low : ℕ) (fault : Fault) → low ≤ number refusal → Passes lawful start past xs low (number refusal) → FirstFault Meet zs f refusal fault → FaultFrom lawful start past xs low fault
    fault_of low fault reached passes p =
        let a = p.first in
        let b = p.second in
        let e = p.one in
        let g = p.other in
        by_fields (FaultFrom lawful start past xs low) fault refusal g.issued.place e.issued.place p.reason p.later p.earlier
        (record {
          reached = reached;
          broken = found_broken lawful start past xs zs f lined (number refusal) paired Meet says a b e g p.stands p.stands_later p.clashing;
          least = passes;
          packet = found_packet lawful start past xs zs f lined (number refusal) paired Meet says a b e g p.stands p.stands_later p.clashing;
          later = found_later lawful start past xs zs f lined (number refusal) paired Meet says a b e g p.stands p.stands_later p.clashing;
          earlier = inl (found_earlier lawful start past xs zs f lined (number refusal) paired Meet says a b e g p.stands p.stands_later p.clashing);
        })

-- a count is broken by no two instructions
no_pair : (lawful start : Valuations) (past : List (List Instruction)) (ys : List Instruction) (n : ℕ) → 15 < n → n < 18 → (k s t : ℕ) × ClashAt lawful start past ys n k s t → ⊥
no_pair lawful start past ys n low high (k, s, t, (x, y, st, at-t, apart, c)) =
    ⊎_elim (λ (_, b). beside_none x y n low b) (⊎_elim (λ (e, _). omega arith) (λ (e, _, _). omega arith)) c

pub breaks_cross : (lawful start : Valuations) (past : List (List Instruction)) (ys : List Instruction) → Breaks lawful start past ys 16 → CrossExcess ys
breaks_cross lawful start past ys = ⊎_elim (λ p. absurd (no_pair lawful start past ys 16 (omega arith) (omega arith) p)) (⊎_elim (λ (_, x). x) (λ (e, _). absurd (omega arith)))

pub breaks_reads : (lawful start : Valuations) (past : List (List Instruction)) (ys : List Instruction) → Breaks lawful start past ys 17 → ReadExcess ys
breaks_reads lawful start past ys = ⊎_elim (λ p. absurd (no_pair lawful start past ys 17 (omega arith) (omega arith) p)) (⊎_elim (λ (e, _). absurd (omega arith)) (λ (_, x). x))

-- a count that is too high, at its first slot
pub count_fault : (lawful start : Valuations) (past : List (List Instruction)) (xs : List Instruction) (Excess : List Instruction → Type 0) (refusal : Refusal) → (number refusal ≡ 16) ⊎ (number refusal ≡ 17)
    → ((ys : List Instruction) → Excess ys → Breaks lawful start past ys (number refusal)) → ((ys : List Instruction) → Breaks lawful start past ys (number refusal) → Excess ys)
    → (Excess xs) → (low : ℕ) (f : Fault) → low ≤ number refusal → Passes lawful start past xs low (number refusal) → SlotFault Excess xs (length past) refusal f → FaultFrom lawful start past xs low f
count_fault lawful start past xs Excess refusal which to from whole low f reached passes p =
    let again = p.again in
    by_fields (FaultFrom lawful start past xs low) f refusal f.later f.earlier p.reason refl refl
    (record {
      reached = reached;
      broken = to xs whole;
      least = passes;
      packet = p.packet;
      later = (p.slot.inside, (to _ p.slot.broken, λ m lt b. p.slot.least m lt (from _ b)));
      earlier = inr (which, ap (λ (q : Place). q.packet) again ∙ p.packet, ap (λ (q : Place). q.slot) again);
    })

-- what the first slots have too much of, the packet has
pub cross_whole : (xs : List Instruction) (k : ℕ) → CrossExcess (take k xs) → CrossExcess xs
cross_whole xs k (s, h) = (s, omega (arith, sum_by-take-le (cross_use s) xs k))

pub reads_whole : (xs : List Instruction) (k : ℕ) → ReadExcess (take k xs) → ReadExcess xs
reads_whole xs k (r, h) = (r, omega (arith, sum_by-take-le (mentions r) xs k))

-- no other constraints
pub breaks_low : (lawful start : Valuations) (past : List (List Instruction)) (xs : List Instruction) (n : ℕ) → Breaks lawful start past xs n → (11 ≤ n) × (n < 20)
breaks_low lawful start past xs n =
    ⊎_elim
    (λ (k, s, t, (x, y, st, at-t, apart, c)). ⊎_elim (λ (_, b). ⊎_elim (λ (e, _). (omega arith, omega arith)) (⊎_elim (λ (e, _). (omega arith, omega arith)) (⊎_elim (λ (e, _). (omega arith, omega arith))
    (⊎_elim (λ (e, _). (omega arith, omega arith)) (λ (e, _). (omega arith, omega arith))))) b)
    (⊎_elim (λ (e, _). (omega arith, omega arith)) (λ (e, _, _). (omega arith, omega arith))) c)
    (⊎_elim (λ (e, _). (omega arith, omega arith)) (λ (e, _). (omega arith, omega arith)))

-- the entries of the packet, behind those in flight
pub own_slots : {h : History} {start : Valuations} {past : List (List Instruction)} {all slice own : List InFlight} {from : ℕ} (xs : List Instruction) → StandsFor h start past → length xs ≤ 8
    → from ≡ length h.flight → issues all ≡ issues h.flight ++ slots h.packets h.cycle 0 xs → slice ≡ all → own ≡ take 8 (take (length slice - from) (drop from slice))
    → issues own ≡ slots (length past) (cycles past) 0 xs
own_slots {h} {start} {past} {all} {slice} {own} {from} xs stands short e made same cut =
    let front = length-map h.flight (λ (z : InFlight). z.issued) in
    let behind : issues (drop from slice) ≡ slots h.packets h.cycle 0 xs =
    sym (drop-map (λ (z : InFlight). z.issued) from slice) ∙ ap (λ l. drop from (issues l)) same ∙ ap (drop from) made ∙ drop_at (issues h.flight) (slots h.packets h.cycle 0 xs) from (omega arith) in
    let few : length (drop from slice) ≤ 8 = omega (arith, ap length behind, length-map (drop from slice) (λ (z : InFlight). z.issued), length_slots h.packets h.cycle 0 xs) in
    ap issues (cut ∙ ap (take 8) (take_rest slice from) ∙ take_all 8 (drop from slice) few) ∙ behind ∙ ap₂ (λ (k c : ℕ). slots k c 0 xs) stands.many stands.time

-- what a part of the constraints is refused with, after those before it passed
pub refused_of : (lawful start : Valuations) (past : List (List Instruction)) (xs : List Instruction) (low : ℕ) (f : Fault) → Passes lawful start past xs 11 low → FaultFrom lawful start past xs low f → RefusedWith lawful start past xs f
refused_of lawful start past xs low f before p = record {
  least = (
    p.broken,
    λ m lt b. let bounds = breaks_low lawful start past xs m b in
        ⊎_elim (λ early. before m bounds.0 early b) (λ late. p.least m late lt b) (cases_lt m low),
  );
  packet = p.packet;
  later = p.later;
  earlier = p.earlier;
}

pub passes_then : (lawful start : Valuations) (past : List (List Instruction)) (xs : List Instruction) (low mid high : ℕ) → Passes lawful start past xs low mid → Passes lawful start past xs mid high → Passes lawful start past xs low high
passes_then lawful start past xs low mid high first second m le lt b = ⊎_elim (λ early. first m le early b) (λ late. second m late lt b) (cases_lt m mid)

-- how many are in flight
pub front_of : (past : List (List Instruction)) (es : List InFlight) (from : ℕ) → from ≡ length es → FlightOf past (cycles past) es → from ≡ length (kept (cycles past) (positions 0 0 past))
front_of past es from e flight = let l = length-map es (λ (z : InFlight). z.issued) in let k = ap length flight in omega arith
