-- What holds of every replay, from the laws of the book. Assumes nothing.
use Rattle.std.proofs.Common.{◌≡◌, List, [], ◌∷◌, ◌++◌, Result, sym, refl, ◌∙◌, subst, ap₂}
use Rattle.std.proofs.lemmas.List.{append_cancel_left}
use Rattle.constraints.specs.declared.fault.Fault.{Fault}
use Rattle.book.specs.declared.calls.Call.{Call}
use Rattle.book.specs.declared.calls.Answer.{Answer}
use Rattle.book.specs.Books.{Rules, Book, opened, after, SaysAll}
use Rattle.slot_order.proofs.Carrying.{slot_order_law}
use Rattle.slot_order.proofs.Single.{one_answer}
use Rattle.soundness.proofs.Accepted.{accepted_sound}
use Rattle.checker.specs.Replays.{AnswersFrom, OnlyAnswers, NeverOverclaimed, OrderFree}

-- a list of calls has one list of answers
same_answers : (k : Rules) (b : Book) (cs : List Call) (vs vs' : List (Result Answer Fault)) → SaysAll k b cs vs → SaysAll k b cs vs' → vs' ≡ vs
same_answers k b [] [] [] s s' = refl
same_answers k b [] [] (v' ∷ vs') s s' = absurd s'
same_answers k b [] (v ∷ vs) vs' s s' = absurd s
same_answers k b (c ∷ cs) [] vs' s s' = absurd s
same_answers k b (c ∷ cs) (v ∷ vs) [] s s' = absurd s'
same_answers k b (c ∷ cs) (v ∷ vs) (v' ∷ vs') (s, rest) (s', rest') =
    let one = one_answer k b c v v' s s' in
    ap₂ (λ x xs. x ∷ xs) one (same_answers k (after k b c v) cs vs vs' rest (subst (λ (x : Result Answer Fault). SaysAll k (after k b c x) cs vs') one rest'))

module _ (k : Rules) (cs : List Call) (old new : List (Result Answer Fault)) (from : AnswersFrom k (opened k.lawful) cs old new) where
  these : (vs : List (Result Answer Fault)) → new ≡ old ++ vs → SaysAll k (opened k.lawful) cs vs
  these vs e = subst (SaysAll k (opened k.lawful) cs) (append_cancel_left old from.answers vs (sym from.added ∙ e)) from.says

  pub only_answers : OnlyAnswers k cs old new
  only_answers vs vs' e s = same_answers k (opened k.lawful) cs vs vs' (these vs e) s

  pub never_overclaimed : NeverOverclaimed k cs old new
  never_overclaimed vs e = accepted_sound k cs vs (these vs e)

  pub order_free : OrderFree k cs old new
  order_free vs e k' cs' vs' rows lawful s r = slot_order_law k k' cs cs' vs vs' rows lawful (these vs e) s r
