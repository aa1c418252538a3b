-- One call more of a list of calls. Assumes nothing.
use Rattle.std.proofs.Common.{◌≡◌, ℕ, ◌+◌, ◌<◌, List, [], ◌∷◌, ◌++◌, length, get_or, take, Option, Result, sym, refl, ap, ◌∙◌, subst, ap₂}
use Rattle.std.proofs.lemmas.List.{append_assoc, append-nil, take_more}
use Rattle.isa.specs.declared.row.Row.{Row}
use Rattle.constraints.specs.declared.fault.Fault.{Fault}
use Rattle.book.specs.declared.calls.Call.{Call}
use Rattle.book.specs.declared.calls.Answer.{Answer}
use Rattle.book.specs.Books.{Rules, Book, Says, after, SaysAll, after_all}
use Rattle.checker.specs.declared.checker.Checker.{Checker}
use Rattle.checker.specs.Stands.{rules_of, Stands, Unchanged, Serves}
use Rattle.checker.specs.Replays.{Performs}

-- one call more, and its answer
says_push : (k : Rules) (b : Book) (cs : List Call) (vs : List (Result Answer Fault)) (c : Call) (v : Result Answer Fault) → SaysAll k b cs vs → Says k (after_all k b cs vs) c v
    → SaysAll k b (cs ++ c ∷ []) (vs ++ v ∷ []) × (after_all k b (cs ++ c ∷ []) (vs ++ v ∷ []) ≡ after k (after_all k b cs vs) c v)
says_push k b [] [] c v all says = ((says, tt), refl)
says_push k b [] (w ∷ vs) c v all says = absurd all
says_push k b (d ∷ cs) [] c v all says = absurd all
says_push k b (d ∷ cs) (w ∷ vs) c v (first, rest) says = let (more, same) = says_push k (after k b d w) cs vs c v rest says in ((first, more), same)

pub performs_none : {R : Type 0} (k : Rules) (b : Book) (old : List (Result Answer Fault)) (c : Checker R) → Stands c b → Performs k b [] old old c
performs_none k b old c stands = record { answers = []; added = sym (append-nil old); says = tt; stands = stands }

pub performs_more : {R : Type 0} (k : Rules) (rows : ℕ → Option Row) (b : Book) (cs : List Call) (n : ℕ) (d : Call) (old new newer : List (Result Answer Fault)) (c after-c : Checker R) (v : Result Answer Fault) → n < length cs → rules_of rows c ≡ k
    → Performs k b (take n cs) old new c → Serves rows c (get_or cs n d) after-c v → newer ≡ new ++ v ∷ [] → Performs k b (take (n + 1) cs) old newer after-c
performs_more {R} k rows b cs n d old new newer c after-c v h same p serves pushed =
    let x = get_or cs n d in
    let now = after_all k b (take n cs) p.answers in
    let told = subst (λ (r : Rules). Says r now x v × Stands after-c (after r now x v) × Unchanged c after-c v) same (serves now p.stands) in
    let (says, ends) = says_push k b (take n cs) p.answers x v p.says told.0 in
    subst (λ (l : List Call). Performs k b l old newer after-c) (sym (take_more cs n d h))
    (record {
      answers = p.answers ++ v ∷ [];
      added = pushed ∙ ap (λ l. l ++ v ∷ []) p.added ∙ append_assoc old p.answers (v ∷ []);
      says = says;
      stands = subst (Stands after-c) (sym ends) told.1;
    })

-- equal repertoires and lawful sets make equal rules
pub same_rules : {R : Type 0} (map : R → ℕ → Option Row) (c d : Checker R) → c.repertoire ≡ d.repertoire → c.history.lawful ≡ d.history.lawful → rules_of (map c.repertoire) c ≡ rules_of (map d.repertoire) d
same_rules map c d e f = ap₂ (λ r v. record { rows = map r; lawful = v }) e f
