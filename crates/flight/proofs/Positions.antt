-- The instructions of a schedule in a list: which stand there, in which order, and how many are kept. Assumes nothing.
use Rattle.std.proofs.Common.{◌≡◌, ℕ, zero, suc, ◌+◌, List, [], ◌∷◌, ◌++◌, length, take, Some, sym, refl, ap, ◌∙◌, subst, ap₂, arith}
use Rattle.std.specs.List.{AllByRecursion as All}
use Rattle.std.proofs.ByRecursion.{All-append, All-weaker}
use Rattle.std.proofs.lemmas.List.{append_assoc, append-nil}
use Rattle.std.proofs.lemmas.List.Sums.{sum_by-cons}
use Rattle.std.specs.List.{slice_get}
use Rattle.admission.specs.declared.instruction.Instruction.{Instruction}
use Rattle.hazards.specs.Lengths.{packet_length}
use Rattle.constraints.specs.Schedules.{cycles, issue, Stands}
use Rattle.constraints.proofs.Moving.{none_some, some_one}
use Rattle.flight.specs.declared.issued.Issued.{Issued}
use Rattle.flight.specs.Issues.{issued_at, slots, positions}
use Rattle.flight.proofs.Entries.{Any, any_left, any_right, any_later}

-- q comes from slot s or a later one of packet k, which holds xs from slot s on and issues in cycle c
pub record FromSlots (k c s : ℕ) (xs : List Instruction) (q : Issued) : Type 0 where
  pub packet : q.place.packet ≡ k
  pub cycle : q.issue ≡ c
  pub turn : ℕ
  pub slot : q.place.slot ≡ s + turn
  pub stands : slice_get xs turn ≡ Some q.instruction

slots_later : (k c s : ℕ) (x : Instruction) (xs : List Instruction) (q : Issued) → FromSlots k c (s + 1) xs q → FromSlots k c s (x ∷ xs) q
slots_later k c s x xs q f = let e = f.slot in record { packet = f.packet; cycle = f.cycle; turn = suc f.turn; slot = omega arith; stands = f.stands }

pub slots_sound : (k c s : ℕ) (xs : List Instruction) → All (FromSlots k c s xs) (slots k c s xs)
slots_sound k c s [] = tt
slots_sound k c s (x ∷ xs) = (
  record { packet = refl; cycle = refl; turn = 0; slot = omega arith; stands = refl },
  All-weaker (FromSlots k c (s + 1) xs) (FromSlots k c s (x ∷ xs)) (slots_later k c s x xs) (slots k c (s + 1) xs) (slots_sound k c (s + 1) xs),
)

-- q is the instruction x, in slot s of packet k, which issues in cycle c
pub record Is (k s c : ℕ) (x : Instruction) (q : Issued) : Type 0 where
  pub packet : q.place.packet ≡ k
  pub slot : q.place.slot ≡ s
  pub cycle : q.issue ≡ c
  pub instruction : q.instruction ≡ x

pub slots_has : (k c s : ℕ) (xs : List Instruction) (t : ℕ) (x : Instruction) → slice_get xs t ≡ Some x → Any (Is k (s + t) c x) (slots k c s xs)
slots_has k c s [] t x e = absurd (none_some x e)
slots_has k c s (y ∷ xs) zero x e = (0, _, refl, record { packet = refl; slot = omega arith; cycle = refl; instruction = some_one y x e })
slots_has k c s (y ∷ xs) (suc t) x e =
    let n : s + 1 + t ≡ s + suc t = omega arith in
    subst (λ (m : ℕ). Any (Is k m c x) (slots k c s (y ∷ xs))) n (any_later (Is k (s + 1 + t) c x) _ (slots k c (s + 1) xs) (slots_has k c (s + 1) xs t x e))

-- q comes from the packets ps, the first of which is packet k and issues in cycle c
pub record FromPackets (k c : ℕ) (ps : List (List Instruction)) (q : Issued) : Type 0 where
  pub turn : ℕ
  pub packet : q.place.packet ≡ k + turn
  pub stands : Stands ps turn q.place.slot q.instruction
  pub cycle : q.issue ≡ c + issue ps turn

first_packet_lem : (k c : ℕ) (p : List Instruction) (ps : List (List Instruction)) (q : Issued) → FromSlots k c 0 p q → FromPackets k c (p ∷ ps) q
first_packet_lem k c p ps q f =
    let e = f.packet in
    let d = f.cycle in
    let n : f.turn ≡ q.place.slot = let s = f.slot in omega arith in
    record { turn = 0; packet = omega arith; stands = (p, refl, subst (λ (m : ℕ). slice_get p m ≡ Some q.instruction) n f.stands); cycle = omega arith }

later_packet : (k c : ℕ) (p : List Instruction) (ps : List (List Instruction)) (q : Issued) → FromPackets (k + 1) (c + packet_length p) ps q → FromPackets k c (p ∷ ps) q
later_packet k c p ps q f =
    let e = f.packet in
    let d = f.cycle in
    let s = sum_by-cons packet_length p (take f.turn ps) in
    record { turn = suc f.turn; packet = omega arith; stands = f.stands; cycle = omega arith }

pub positions_sound : (k c : ℕ) (ps : List (List Instruction)) → All (FromPackets k c ps) (positions k c ps)
positions_sound k c [] = tt
positions_sound k c (p ∷ ps) =
    All-append (FromPackets k c (p ∷ ps)) (slots k c 0 p) (positions (k + 1) (c + packet_length p) ps)
    (All-weaker (FromSlots k c 0 p) (FromPackets k c (p ∷ ps)) (first_packet_lem k c p ps) (slots k c 0 p) (slots_sound k c 0 p))
    (All-weaker (FromPackets (k + 1) (c + packet_length p) ps) (FromPackets k c (p ∷ ps)) (later_packet k c p ps) (positions (k + 1) (c + packet_length p) ps)
    (positions_sound (k + 1) (c + packet_length p) ps))

any_like : {X : Type 0} (P Q : X → Type 0) (xs : List X) → ((x : X) → P x → Q x) → Any P xs → Any Q xs
any_like P Q xs f (a, x, e, p) = (a, x, e, f x p)

is_like : (k s c k' s' c' : ℕ) (x : Instruction) (q : Issued) → k ≡ k' → s ≡ s' → c ≡ c' → Is k s c x q → Is k' s' c' x q
is_like k s c k' s' c' x q ek es ec i = record { packet = i.packet ∙ ek; slot = i.slot ∙ es; cycle = i.cycle ∙ ec; instruction = i.instruction }

pub positions_has : (k c : ℕ) (ps : List (List Instruction)) (j s : ℕ) (x : Instruction) → Stands ps j s x → Any (Is (k + j) s (c + issue ps j) x) (positions k c ps)
positions_has k c [] j s x (p, e, h) = absurd (none_some p e)
positions_has k c (p ∷ ps) zero s x (q, e, h) =
    let same : p ≡ q = some_one p q e in
    any_left (Is (k + 0) s (c + 0) x) (slots k c 0 p) (positions (k + 1) (c + packet_length p) ps)
    (any_like (Is k (0 + s) c x) (Is (k + 0) s (c + 0) x) (slots k c 0 p) (λ i. is_like k (0 + s) c (k + 0) s (c + 0) x i (omega arith) (omega arith) (omega arith))
    (slots_has k c 0 p s x (subst (λ (l : List Instruction). slice_get l s ≡ Some x) (sym same) h)))
positions_has k c (p ∷ ps) (suc j) s x st =
    let d = sum_by-cons packet_length p (take j ps) in
    let there = positions_has (k + 1) (c + packet_length p) ps j s x st in
    any_right (Is (k + suc j) s (c + issue (p ∷ ps) (suc j)) x) (slots k c 0 p) (positions (k + 1) (c + packet_length p) ps)
    (any_like (Is (k + 1 + j) s (c + packet_length p + issue ps j) x) (Is (k + suc j) s (c + issue (p ∷ ps) (suc j)) x) (positions (k + 1) (c + packet_length p) ps)
    (λ i. is_like (k + 1 + j) s (c + packet_length p + issue ps j) (k + suc j) s (c + issue (p ∷ ps) (suc j)) x i (omega arith) refl (omega arith)) there)

-- one packet more
pub positions_push : (k c : ℕ) (ps : List (List Instruction)) (p : List Instruction) → positions k c (ps ++ p ∷ []) ≡ positions k c ps ++ slots (k + length ps) (c + cycles ps) 0 p
positions_push k c [] p =
    let e : k + 0 ≡ k = omega arith in
    let d : c + 0 ≡ c = omega arith in
    append-nil (slots k c 0 p) ∙ sym (ap₂ (λ (m n : ℕ). slots m n 0 p) e d)
positions_push k c (q ∷ ps) p =
    let s = sum_by-cons packet_length q ps in
    let e : k + 1 + length ps ≡ k + suc (length ps) = omega arith in
    let d : c + packet_length q + cycles ps ≡ c + cycles (q ∷ ps) = omega arith in
    ap (λ l. slots k c 0 q ++ l) (positions_push (k + 1) (c + packet_length q) ps p ∙ ap (λ l. positions (k + 1) (c + packet_length q) ps ++ l) (ap₂ (λ (m n : ℕ). slots m n 0 p) e d))
    ∙ sym (append_assoc (slots k c 0 q) (positions (k + 1) (c + packet_length q) ps) (slots (k + length (q ∷ ps)) (c + cycles (q ∷ ps)) 0 p))

-- what stands at a place of the instructions of one packet
pub slots_at : (k c s : ℕ) (xs : List Instruction) (t : ℕ) (q : Issued) → slice_get (slots k c s xs) t ≡ Some q
    → (q.place.packet ≡ k) × (q.place.slot ≡ s + t) × (q.issue ≡ c) × (slice_get xs t ≡ Some q.instruction)
slots_at k c s [] t q e = absurd (none_some q e)
slots_at k c s (x ∷ xs) zero q e =
    let same = some_one (issued_at k c s x) q e in
    let slot = ap (λ (r : Issued). r.place.slot) same in
    (sym (ap (λ (r : Issued). r.place.packet) same), omega arith, sym (ap (λ (r : Issued). r.issue) same), ap (λ (r : Issued). Some r.instruction) same)
slots_at k c s (x ∷ xs) (suc t) q e = let (p, n, d, i) = slots_at k c (s + 1) xs t q e in (p, omega arith, d, i)

-- the instruction of a slot stands at its place
pub slots_there : (k c s : ℕ) (xs : List Instruction) (t : ℕ) (x : Instruction) → slice_get xs t ≡ Some x → slice_get (slots k c s xs) t ≡ Some (issued_at k c (s + t) x)
slots_there k c s [] t x e = absurd (none_some x e)
slots_there k c s (y ∷ xs) zero x e = let n : s ≡ s + 0 = omega arith in ap (λ (i : Instruction). Some (issued_at k c s i)) (some_one y x e) ∙ ap (λ (m : ℕ). Some (issued_at k c m x)) n
slots_there k c s (y ∷ xs) (suc t) x e = let n : s + 1 + t ≡ s + suc t = omega arith in slots_there k c (s + 1) xs t x e ∙ ap (λ (m : ℕ). Some (issued_at k c m x)) n
