-- The answers to each trial, by computation.
-- Assumes nothing.
use Rattle.std.proofs.Common.{◌≡◌, List, Result, refl, subst}
use Rattle.isa.specs.declared.record.Record.{Record}
use Rattle.runs.specs.declared.valuations.Valuations.{Valuations}
use Rattle.constraints.specs.declared.fault.Fault.{Fault}
use Rattle.book.specs.declared.calls.Answer.{Answer}
use Rattle.book.specs.Books.{opened, SaysAll}
use Rattle.decision.proofs.Answering.{answers, answers_said}
use Rattle.trials.specs.Notation.{schedule, rules, Answers}
use Rattle.trials.specs.Trials.{Trials}

computed : (lawful : Valuations) (ps : List (List Record)) (as' : List (Result Answer Fault)) → answers (rules lawful) (opened lawful) (schedule ps) ≡ as' → Answers lawful ps as'
computed lawful ps as' e = record { says = subst (SaysAll (rules lawful) (opened lawful) (schedule ps)) e (answers_said (rules lawful) (opened lawful) (schedule ps)) }

pub trials : Trials
trials = record {
  unit_twice = computed _ _ _ refl;
  units_apart = computed _ _ _ refl;
  port_shared = computed _ _ _ refl;
  port_taken = computed _ _ _ refl;
  operands_differ = computed _ _ _ refl;
  path_crowded = computed _ _ _ refl;
  stall_after_write = computed _ _ _ refl;
  no_stall_after_load = computed _ _ _ refl;
  register_crowded = computed _ _ _ refl;
  condition_no_read = computed _ _ _ refl;
  landing_together = computed _ _ _ refl;
  landing_apart = computed _ _ _ refl;
  conditions_meet = computed _ _ _ refl;
  conditions_parted = computed _ _ _ refl;
  conditions_opposite = computed _ _ _ refl;
  condition_kept = computed _ _ _ refl;
  condition_changed = computed _ _ _ refl;
}
