-- A book has one answer to a call, the places of a fault too.
-- Assumes nothing.
use Rattle.std.proofs.Common.{◌≡◌, ℕ, ◌+◌, ◌<◌, ◌⊎◌, List, take, Ok, Err, Result, sym, ap, ◌∙◌, subst, inl, inr, ⊎_elim, arith}
use Rattle.std.proofs.lemmas.Bool.{cases_order}
use Rattle.isa.specs.declared.refusal.Refusal.{Refusal}
use Rattle.isa.specs.Refusals.{number}
use Rattle.admission.specs.declared.instruction.Instruction.{Instruction}
use Rattle.runs.specs.declared.valuations.Valuations.{Valuations}
use Rattle.constraints.specs.declared.fault.Fault.{Fault}
use Rattle.constraints.specs.declared.fault.Place.{Place}
use Rattle.constraints.specs.Constraints.{Beside, ClashAt, Breaks}
use Rattle.constraints.specs.Faults.{Later, FirstWith, Earlier, RefusedWith}
use Rattle.book.specs.declared.calls.Call.{Call}
use Rattle.book.specs.declared.calls.Call.TheVariants.{Take, Totals as AskTotals, Close}
use Rattle.book.specs.declared.calls.Answer.{Answer}
use Rattle.book.specs.Books.{Rules, Book, with, Standing, Says}
use Rattle.slot_order.specs.Orders.{plain, OneAnswer}
use Rattle.slot_order.proofs.Plain.{least_one, tells_plain, tells_one}

-- places and faults by their fields
place_eq : (p q : Place) → q.packet ≡ p.packet → q.slot ≡ p.slot → q ≡ p
place_eq p q e f = made p.packet q.packet p.slot q.slot e f
  where
    made : (k l s t : ℕ) → l ≡ k → t ≡ s → ◌≡◌ {A = Place} (record { packet = l; slot = t }) (record { packet = k; slot = s })
    made k l s t a b = cc

fault_eq : (f g : Fault) → g.refusal ≡ f.refusal → g.later ≡ f.later → g.earlier ≡ f.earlier → g ≡ f
fault_eq f g = made f.refusal g.refusal f.later g.later f.earlier g.earlier
  where
    made : (e h : Refusal) (l m x y : Place) → h ≡ e → m ≡ l → y ≡ x → ◌≡◌ {A = Fault} (record { refusal = h; later = m; earlier = y }) (record { refusal = e; later = l; earlier = x })
    made e h l m x y a b c = cc

-- both places where the next record would stand
standing_one : (b : Book) (f g : Fault) → g.refusal ≡ f.refusal → Standing b f → Standing b g → g ≡ f
standing_one b f g e s t =
    let l : g.later ≡ f.later = place_eq f.later g.later (t.packet ∙ sym s.packet) (t.slot ∙ sym s.slot) in
    fault_eq f g e l (t.again ∙ l ∙ sym s.again)

-- a count is broken by no two instructions
beside_small : (x y : Instruction) (n : ℕ) → Beside n x y → n < 16
beside_small x y n =
    ⊎_elim (λ (e, _). omega arith) (⊎_elim (λ (e, _). omega arith) (⊎_elim (λ (e, _). omega arith) (⊎_elim (λ (e, _). omega arith) (λ (e, _). omega arith))))

module _ (lawful start : Valuations) (past : List (List Instruction)) (xs : List Instruction) where
  no_pair : (n k s t : ℕ) → (n ≡ 16) ⊎ (n ≡ 17) → ClashAt lawful start past xs n k s t → ⊥
  no_pair n k s t count (x, y, _, _, _, clash) =
      let high : 15 < n = ⊎_elim (λ e. omega arith) (λ e. omega arith) count in
      let low : n < 18 = ⊎_elim (λ e. omega arith) (λ e. omega arith) count in
      ⊎_elim (λ (_, b). omega (arith, beside_small x y n b)) (⊎_elim (λ (e, _). omega arith) (λ (e, _, _). omega arith)) clash

  -- the first of the places that clash with slot t
  first_one : (n t k s l r : ℕ) → FirstWith lawful start past xs n t k s → FirstWith lawful start past xs n t l r → (l ≡ k) × (r ≡ s)
  first_one n t k s l r a b =
      ⊎_elim
      (λ e. ⊎_elim (λ f. (sym e, sym f)) (⊎_elim (λ h. absurd (b.1 k s (inr (e, h)) a.0)) (λ h. absurd (a.1 l r (inr (sym e, h)) b.0))) (cases_order s r))
      (⊎_elim (λ h. absurd (b.1 k s (inl h) a.0)) (λ h. absurd (a.1 l r (inl h) b.0))) (cases_order k l)

  earlier_one : (n t k s l r : ℕ) → Earlier lawful start past xs n t k s → Earlier lawful start past xs n t l r → (l ≡ k) × (r ≡ s)
  earlier_one n t k s l r (inl a) (inl b) = first_one n t k s l r a b
  earlier_one n t k s l r (inl a) (inr b) = absurd (no_pair n k s t b.0 a.0)
  earlier_one n t k s l r (inr a) (inl b) = absurd (no_pair n l r t a.0 b.0)
  earlier_one n t k s l r (inr a) (inr b) = (b.1 ∙ sym a.1, b.2 ∙ sym a.2)

  refused_one : (f g : Fault) → g.refusal ≡ f.refusal → RefusedWith lawful start past xs f → RefusedWith lawful start past xs g → g ≡ f
  refused_one f g e s t =
      let same : number g.refusal ≡ number f.refusal = ap number e in
      let found : Later lawful start past xs (number f.refusal) g.later.slot = subst (λ (n : ℕ). Later lawful start past xs n g.later.slot) same t.later in
      let slot : g.later.slot ≡ f.later.slot =
      least_one (λ m. Breaks lawful start past (take (m + 1) xs) (number f.refusal)) f.later.slot g.later.slot s.later.1 found.1 in
      let first : Earlier lawful start past xs (number f.refusal) g.later.slot g.earlier.packet g.earlier.slot =
      subst (λ (n : ℕ). Earlier lawful start past xs n g.later.slot g.earlier.packet g.earlier.slot) same t.earlier in
      let there : Earlier lawful start past xs (number f.refusal) f.later.slot g.earlier.packet g.earlier.slot =
      subst (λ (m : ℕ). Earlier lawful start past xs (number f.refusal) m g.earlier.packet g.earlier.slot) slot first in
      let both = earlier_one (number f.refusal) f.later.slot f.earlier.packet f.earlier.slot g.earlier.packet g.earlier.slot s.earlier there in
      fault_eq f g e (place_eq f.later g.later (t.packet ∙ sym s.packet) slot) (place_eq f.earlier g.earlier both.0 both.1)

fault_one : (k : Rules) (b : Book) (c : Call) (f g : Fault) → g.refusal ≡ f.refusal → Says k b c (Err f) → Says k b c (Err g) → g ≡ f
fault_one k b (Take r) f g e (inl s) (inl t) = standing_one b f g e s.1 t.1
fault_one k b (Take r) f g e (inl s) (inr t) = absurd (t.0 (number f.refusal) s.0.0)
fault_one k b (Take r) f g e (inr s) (inl t) = absurd (s.0 (number g.refusal) t.0.0)
fault_one k b (Take r) f g e (inr s) (inr t) = refused_one k.lawful k.lawful b.accepted (with k b r) f g e s.2 t.2
fault_one k b AskTotals f g e s t = absurd s
fault_one k b Close f g e s t = standing_one b f g e s.1 t.1

-- answers that are the same, places aside
with_places : (k : Rules) (b : Book) (c : Call) (v v' : Result Answer Fault) → plain v' ≡ plain v → Says k b c v → Says k b c v' → v' ≡ v
with_places k b c (Ok a) (Ok a') e s t = let x : a' ≡ a = cc in ap Ok x
with_places k b c (Ok a) (Err g) e s t = let z : ◌≡◌ {A = ℕ} 0 1 = cc in absurd (omega arith)
with_places k b c (Err f) (Ok a') e s t = let z : ◌≡◌ {A = ℕ} 0 1 = cc in absurd (omega arith)
with_places k b c (Err f) (Err g) e s t = let x : g.refusal ≡ f.refusal = cc in ap Err (fault_one k b c f g x s t)

pub one_answer : OneAnswer
one_answer k b c v v' s t = with_places k b c v v' (tells_one k b c (plain v) (plain v') (tells_plain k b c v s) (tells_plain k b c v' t)) s t
