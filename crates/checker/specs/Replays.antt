-- Lists of calls: what replaying them adds to the answers, and what holds of every such replay.
use Rattle.std.specs.Prelude.{◌≡◌, ℕ, List, ◌++◌, map, Result, ◌≢◌}
use Rattle.constraints.specs.declared.fault.Fault.{Fault}
use Rattle.book.specs.declared.calls.Call.{Call}
use Rattle.book.specs.declared.calls.Answer.{Answer}
use Rattle.book.specs.Books.{Rules, Book, opened, SaysAll, after_all}
use Rattle.admission.specs.declared.instruction.Instruction.{Instruction}
use Rattle.runs.specs.declared.valuations.Valuations.{Valuations}
use Rattle.slot_order.specs.Orders.{plain, Reordered}
use Rattle.soundness.specs.Sound.{RunOf, Sound}
use Rattle.checker.specs.declared.checker.Checker.{Checker}
use Rattle.checker.specs.Stands.{Stands}

-- the answers to the calls, from the book b on, come behind the old ones
pub record AnswersFrom (k : Rules) (b : Book) (cs : List Call) (old new : List (Result Answer Fault)) : Type 0 where
  pub answers : List (Result Answer Fault)
  pub added : new ≡ old ++ answers
  pub says : SaysAll k b cs answers

-- they do, and the checker then stands for what the book holds in the end
pub record Performs {R : Type 0} (k : Rules) (b : Book) (cs : List Call) (old new : List (Result Answer Fault)) (c : Checker R) : Type 0 where
  pub answers : List (Result Answer Fault)
  pub added : new ≡ old ++ answers
  pub says : SaysAll k b cs answers
  pub stands : Stands c (after_all k b cs answers)

-- no other list of answers is what the book says
abbrev pub OnlyAnswers : Rules → List Call → List (Result Answer Fault) → List (Result Answer Fault) → Type 0
OnlyAnswers k cs old new = (vs vs' : List (Result Answer Fault)) → new ≡ old ++ vs → SaysAll k (opened k.lawful) cs vs' → vs' ≡ vs

-- of the packets accepted in the end, none claims more than the chip has, no two results meet at a write port, and no run performs two writes of a register that land together
abbrev pub NeverOverclaimed : Rules → List Call → List (Result Answer Fault) → List (Result Answer Fault) → Type 0
NeverOverclaimed k cs old new = (vs : List (Result Answer Fault)) → new ≡ old ++ vs → Sound k.lawful (after_all k (opened k.lawful) cs vs).accepted

-- packets have a run, unless no valuation is lawful
abbrev pub RunsExist : Valuations → Type 0
RunsExist lawful = (ps : List (List Instruction)) → (lawful.bits ≢ 0) → (run : ℕ → ℕ) × RunOf lawful ps run

-- the calls in another order of slots, put to a new book on an equal map and lawful set, have the same answers, places of faults aside
abbrev pub OrderFree : Rules → List Call → List (Result Answer Fault) → List (Result Answer Fault) → Type 0
OrderFree k cs old new = (vs : List (Result Answer Fault)) → new ≡ old ++ vs → (k' : Rules) (cs' : List Call) (vs' : List (Result Answer Fault))
    → ((n : ℕ) → k.rows n ≡ k'.rows n) → k.lawful ≡ k'.lawful → SaysAll k' (opened k'.lawful) cs' vs' → Reordered cs vs cs' → map plain vs' ≡ map plain vs
