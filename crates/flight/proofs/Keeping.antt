-- Which instructions are kept as cycles pass, in which order, and how many. Assumes nothing.
use Rattle.std.proofs.Common.{◌≡◌, ℕ, zero, suc, ◌+◌, ◌*◌, ◌<◌, ◌≤◌, Bool, true, false, cond, leb, List, [], ◌∷◌, ◌++◌, length, Some, filter, sym, refl, ap, ◌∙◌, subst, inl, inr, ⊎_elim, arith, le-leb, leb-true}
use Rattle.std.specs.List.{AllByRecursion as All}
use Rattle.std.proofs.lemmas.List.Elements.{filter-append}
use Rattle.std.proofs.ByRecursion.{All-append, All-weaker, all_kept_by}
use Rattle.std.proofs.lemmas.List.{length-append}
use Rattle.std.proofs.lemmas.List.Sums.{sum_by-cons, length-filter, count_by-le-length}
use Rattle.std.proofs.lemmas.Bool.{cases_lt, both_ways}
use Rattle.std.specs.List.{slice_get}
use Rattle.isa.specs.declared.class.Class.{Class}
use Rattle.isa.specs.declared.class.Class.TheVariants.{Nop, SingleCycle, TwoCycle, FourCycle, Load, Store}
use Rattle.isa.specs.Classes.{delay}
use Rattle.admission.specs.declared.instruction.Instruction.{Instruction}
use Rattle.hazards.specs.Lengths.{packet_length}
use Rattle.hazards.proofs.Longest.{at_least_one}
use Rattle.constraints.specs.Schedules.{cycles}
use Rattle.constraints.specs.Faults.{Before}
use Rattle.constraints.proofs.Moving.{none_some, some_one}
use Rattle.flight.specs.declared.issued.Issued.{Issued}
use Rattle.flight.specs.Issues.{issued_at, slots, positions, live, kept}
use Rattle.flight.proofs.Entries.{all_at}
use Rattle.flight.proofs.Positions.{FromSlots, FromPackets, slots_sound, positions_sound}

-- a test that implies another
kept_both : {X : Type 0} (t u : X → Bool) → ((x : X) → u x ≡ true → t x ≡ true) → (xs : List X) → filter u (filter t xs) ≡ filter u xs
kept_both t u f [] = refl
kept_both t u f (x ∷ xs) = by (t x) (u x) refl refl (kept_both t u f xs)
  where
    by : (a b : Bool) → t x ≡ a → u x ≡ b → filter u (filter t xs) ≡ filter u xs
        → filter u (cond a (x ∷ filter t xs) (filter t xs)) ≡ cond b (x ∷ filter u xs) (filter u xs)
    by true true e d same = ap (λ (b : Bool). cond b (x ∷ filter u (filter t xs)) (filter u (filter t xs))) d ∙ ap (λ l. x ∷ l) same
    by true false e d same = ap (λ (b : Bool). cond b (x ∷ filter u (filter t xs)) (filter u (filter t xs))) d ∙ same
    by false true e d same = absurd (both_ways (t x) e (f x d))
    by false false e d same = same

-- what is kept later was kept before
pub kept_on : (c d : ℕ) (qs : List Issued) → c ≤ d → kept d (kept c qs) ≡ kept d qs
kept_on c d qs h =
    kept_both (live c) (live d)
    (λ q e. let le = leb-true d (q.issue + delay q.instruction.row.class + 1) e in le-leb c (q.issue + delay q.instruction.row.class + 1) (omega arith)) qs

-- what issues in cycle c is kept then
pub kept_slots : (k c s : ℕ) (xs : List Instruction) → kept c (slots k c s xs) ≡ slots k c s xs
kept_slots k c s [] = refl
kept_slots k c s (x ∷ xs) =
    let h : leb c (c + delay x.row.class + 1) ≡ true = le-leb c (c + delay x.row.class + 1) (omega arith) in
    ap (λ (b : Bool). cond b (issued_at k c s x ∷ kept c (slots k c (s + 1) xs)) (kept c (slots k c (s + 1) xs))) h
    ∙ ap (λ l. issued_at k c s x ∷ l) (kept_slots k c (s + 1) xs)

delay_small : (k : Class) → delay k ≤ 4
delay_small Nop = omega arith
delay_small SingleCycle = omega arith
delay_small TwoCycle = omega arith
delay_small FourCycle = omega arith
delay_small Load = omega arith
delay_small Store = omega arith

-- packets of at most eight instructions
abbrev pub Narrow : List (List Instruction) → Type 0
Narrow ps = All (λ p. length p ≤ 8) ps

pub length_slots : (k c s : ℕ) (xs : List Instruction) → length (slots k c s xs) ≡ length xs
length_slots k c s [] = refl
length_slots k c s (x ∷ xs) = ap suc (length_slots k c (s + 1) xs)

-- each packet has at most eight, and takes a cycle
many : (k c : ℕ) (ps : List (List Instruction)) → Narrow ps → length (positions k c ps) ≤ 8 * cycles ps
many k c [] n = omega arith
many k c (p ∷ ps) (h, n) =
    let rest = many (k + 1) (c + packet_length p) ps n in
    omega (arith, length-append (slots k c 0 p) (positions (k + 1) (c + packet_length p) ps), length_slots k c 0 p, sum_by-cons packet_length p ps, at_least_one p)

none_kept : (k c s d : ℕ) (xs : List Instruction) → c + 5 < d → kept d (slots k c s xs) ≡ []
none_kept k c s d [] h = refl
none_kept k c s d (x ∷ xs) h = by (leb d (c + delay x.row.class + 1)) refl (none_kept k c (s + 1) d xs h)
  where
    by : (b : Bool) → leb d (c + delay x.row.class + 1) ≡ b → kept d (slots k c (s + 1) xs) ≡ []
        → cond b (issued_at k c s x ∷ kept d (slots k c (s + 1) xs)) (kept d (slots k c (s + 1) xs)) ≡ []
    by true e none = let le = leb-true d (c + delay x.row.class + 1) e in let small = delay_small x.row.class in absurd (omega arith)
    by false e none = none

-- at most five packets are kept
pub few_kept : (k c : ℕ) (ps : List (List Instruction)) → Narrow ps → length (kept (c + cycles ps) (positions k c ps)) ≤ 40
few_kept k c [] n = omega arith
few_kept k c (p ∷ ps) (h, n) =
    let s = sum_by-cons packet_length p ps in
    let d : ℕ = c + cycles (p ∷ ps) in
    let one = at_least_one p in
    let split = filter-append (live d) (slots k c 0 p) (positions (k + 1) (c + packet_length p) ps) in
    let e : c + packet_length p + cycles ps ≡ d = omega arith in
    ⊎_elim
    (λ old. let gone = none_kept k c 0 d p old in
    let l = ap length split in
    let l2 = length-append (kept d (slots k c 0 p)) (kept d (positions (k + 1) (c + packet_length p) ps)) in
    let z = ap length gone in
    let rest : length (kept d (positions (k + 1) (c + packet_length p) ps)) ≤ 40 = subst (λ (m : ℕ). length (kept m (positions (k + 1) (c + packet_length p) ps)) ≤ 40) e (few_kept (k + 1) (c + packet_length p) ps n) in
    omega arith)
    (λ recent. let l = ap length split in
    let l2 = length-append (kept d (slots k c 0 p)) (kept d (positions (k + 1) (c + packet_length p) ps)) in
    let a = length-filter (live d) (slots k c 0 p) in
    let b = length-filter (live d) (positions (k + 1) (c + packet_length p) ps) in
    let u = count_by-le-length (live d) (slots k c 0 p) in
    let v = count_by-le-length (live d) (positions (k + 1) (c + packet_length p) ps) in
    let m = many (k + 1) (c + packet_length p) ps n in
    let w = length_slots k c 0 p in
    omega arith) (cases_lt (c + 5) d)

-- the place of one comes before that of another
abbrev pub EarlierPlace : Issued → Issued → Type 0
EarlierPlace q r = Before q.place.packet q.place.slot r.place.packet r.place.slot

-- by packet and then slot, each before all behind it
abbrev pub Ordered : List Issued → Type 0
Ordered [] = Unit {0}
Ordered (q ∷ qs) = All (EarlierPlace q) qs × Ordered qs

pub slots_ordered : (k c s : ℕ) (xs : List Instruction) → Ordered (slots k c s xs)
slots_ordered k c s [] = tt
slots_ordered k c s (x ∷ xs) = (
  All-weaker (FromSlots k c (s + 1) xs) (EarlierPlace (issued_at k c s x))
      (λ q f. let e = f.slot in inr (sym f.packet, omega arith)) (slots k c (s + 1) xs) (slots_sound k c (s + 1) xs),
  slots_ordered k c (s + 1) xs,
)

ordered_append : (qs rs : List Issued) → Ordered qs → Ordered rs → All (λ q. All (EarlierPlace q) rs) qs → Ordered (qs ++ rs)
ordered_append [] rs oq or h = or
ordered_append (q ∷ qs) rs oq or h = (All-append (EarlierPlace q) qs rs oq.0 h.0, ordered_append qs rs oq.1 or h.1)

positions_ordered : (k c : ℕ) (ps : List (List Instruction)) → Ordered (positions k c ps)
positions_ordered k c [] = tt
positions_ordered k c (p ∷ ps) =
    ordered_append (slots k c 0 p) (positions (k + 1) (c + packet_length p) ps) (slots_ordered k c 0 p) (positions_ordered (k + 1) (c + packet_length p) ps)
    (All-weaker (FromSlots k c 0 p) (λ q. All (EarlierPlace q) (positions (k + 1) (c + packet_length p) ps))
    (λ q f. All-weaker (FromPackets (k + 1) (c + packet_length p) ps) (EarlierPlace q) (λ r g. let e = f.packet in let d = g.packet in inl (omega arith))
    (positions (k + 1) (c + packet_length p) ps) (positions_sound (k + 1) (c + packet_length p) ps)) (slots k c 0 p) (slots_sound k c 0 p))

ordered_kept : (t : Issued → Bool) (qs : List Issued) → Ordered qs → Ordered (filter t qs)
ordered_kept t [] o = tt
ordered_kept t (q ∷ qs) o = by (t q) (ordered_kept t qs o.1)
  where
    by : (b : Bool) → Ordered (filter t qs) → Ordered (cond b (q ∷ filter t qs) (filter t qs))
    by true rest = (all_kept_by t (EarlierPlace q) qs o.0, rest)
    by false rest = rest

pub kept_ordered : (c : ℕ) (ps : List (List Instruction)) → Ordered (kept c (positions 0 0 ps))
kept_ordered c ps = ordered_kept (live c) (positions 0 0 ps) (positions_ordered 0 0 ps)

-- of two places in the list, the first is the earlier
pub ordered_at : (qs : List Issued) (a b : ℕ) (q r : Issued) → Ordered qs → slice_get qs a ≡ Some q → slice_get qs b ≡ Some r → a < b → EarlierPlace q r
ordered_at [] a b q r o ea eb h = absurd (none_some q ea)
ordered_at (x ∷ qs) zero zero q r o ea eb h = absurd (omega arith)
ordered_at (x ∷ qs) zero (suc b) q r o ea eb h = subst (λ y. EarlierPlace y r) (some_one x q ea) (all_at (EarlierPlace x) qs b r o.0 eb)
ordered_at (x ∷ qs) (suc a) zero q r o ea eb h = absurd (omega arith)
ordered_at (x ∷ qs) (suc a) (suc b) q r o ea eb h = ordered_at qs a b q r o.1 ea eb (omega arith)
