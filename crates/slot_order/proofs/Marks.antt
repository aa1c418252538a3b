-- A record without its p is refused by the same numbers, and has the same instruction.
-- Assumes nothing.
use Rattle.std.proofs.Common.{◌≡◌, ℕ, ◌*◌, ◌/◌, ◌%◌, eqb, ltb, Some, None, Option, sym, ap, ◌∙◌, ⊎_elim, arith}
use mathlib.Core.Logic.{⊎_map}
use Rattle.std.proofs.lemmas.Bool.{cases_lt, lt-ltb, le-ltb}
use Rattle.isa.specs.declared.record.Record.{Record}
use Rattle.isa.specs.declared.row.Row.{Row}
use Rattle.isa.specs.Bits.{is_set}
use Rattle.admission.specs.Instructions.{instruction}
use Rattle.admission.specs.Refusals.{out_of_range, side_or_flag, RefusedBy}
use Rattle.slot_order.specs.Orders.{unmarked}

-- the flags above p, and whether they are over 15
over_stays : (n : ℕ) → ltb 15 (2 * (n / 2)) ≡ ltb 15 n
over_stays n = ⊎_elim (λ h. lt-ltb 15 (2 * (n / 2)) (omega arith) ∙ sym (lt-ltb 15 n h)) (λ h. le-ltb 15 (2 * (n / 2)) (omega arith) ∙ sym (le-ltb 15 n h)) (cases_lt 15 n)

x_stays : (n : ℕ) → is_set (2 * (n / 2)) 1 ≡ is_set n 1
x_stays n = let e : 2 * (n / 2) / 2 % 2 ≡ n / 2 % 2 = omega arith in ap (λ (m : ℕ). eqb m 1) e

t_stays : (n : ℕ) → is_set (2 * (n / 2)) 2 ≡ is_set n 2
t_stays n = let e : 2 * (n / 2) / 4 % 2 ≡ n / 4 % 2 = omega arith in ap (λ (m : ℕ). eqb m 1) e

u_stays : (n : ℕ) → is_set (2 * (n / 2)) 3 ≡ is_set n 3
u_stays n = let e : 2 * (n / 2) / 8 % 2 ≡ n / 8 % 2 = omega arith in ap (λ (m : ℕ). eqb m 1) e

module _ (r : Record) where
  range_stays : (w : Row) → out_of_range w (unmarked r) ≡ out_of_range w r
  range_stays w = let o = over_stays r.flags in cc

  side_stays : (w : Row) → side_or_flag w (unmarked r) ≡ side_or_flag w r
  side_stays w =
      let x = x_stays r.flags in
      let t = t_stays r.flags in
      let u = u_stays r.flags in
      cc

  pub instruction_stays : (w : Row) → instruction w (unmarked r) ≡ instruction w r
  instruction_stays w =
      let x = x_stays r.flags in
      let t = t_stays r.flags in
      let u = u_stays r.flags in
      cc

  pub refused_marked : (o : Option Row) (n : ℕ) → RefusedBy o (unmarked r) n → RefusedBy o r n
  refused_marked None n h = h
  refused_marked (Some w) n h =
      ⊎_map (λ (e, b). (e, sym (range_stays w) ∙ b)) (⊎_map (λ z. z) (⊎_map (λ z. z) (⊎_map (λ z. z) (λ (e, b). (e, sym (side_stays w) ∙ b))))) h

  pub refused_unmarked : (o : Option Row) (n : ℕ) → RefusedBy o r n → RefusedBy o (unmarked r) n
  refused_unmarked None n h = h
  refused_unmarked (Some w) n h =
      ⊎_map (λ (e, b). (e, range_stays w ∙ b)) (⊎_map (λ z. z) (⊎_map (λ z. z) (⊎_map (λ z. z) (λ (e, b). (e, side_stays w ∙ b))))) h
