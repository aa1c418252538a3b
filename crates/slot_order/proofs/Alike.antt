-- From places and packets to a likeness of two lists of calls that goes call by call.
-- Assumes nothing.
use Rattle.std.proofs.Common.{◌≡◌, Bool, true, false, cond, ltb, List, [], ◌∷◌, ◌++◌, map, Some, None, Ok, Err, Option, Result, refl, ap, ◌∙◌, subst}
use Rattle.std.specs.List.Sorted.{IsPermutation}
use Rattle.std.specs.List.{AllZip}
use Rattle.std.proofs.lemmas.Bool.{true≢false, false≢true}
use Rattle.isa.specs.declared.record.Record.{Record}
use Rattle.isa.specs.declared.refusal.Refusal.{Refusal}
use Rattle.isa.specs.Refusals.{number}
use Rattle.constraints.specs.declared.fault.Fault.{Fault}
use Rattle.constraints.proofs.Moving.{none_some}
use Rattle.book.specs.declared.calls.Call.{Call}
use Rattle.book.specs.declared.calls.Call.TheVariants.{Take, Totals as AskTotals, Close}
use Rattle.book.specs.declared.calls.Answer.{Answer}
use Rattle.book.specs.Books.{more}
use Rattle.slot_order.specs.Orders.{plain, unmarked, added, completing, adding, packets, InPlace, InPlaces}
use Rattle.slot_order.proofs.Plain.{takes, takes_plain}

-- after one more record each: with p the packet goes on, without it ends, and the one is the other in another order
abbrev pub Slotted : (List Record → List Record → Type 0) → List Record → List Record → Bool → Type 0
Slotted rest xs ys true = rest xs ys
Slotted rest xs ys false = IsPermutation xs ys × rest [] []

abbrev pub Next : (List Record → List Record → Type 0) → List Record → List Record → Call → Call → Option Record → Type 0
Next rest xs ys c c' None = (c' ≡ c) × rest xs ys
Next rest xs ys c c' (Some r) =
    (r' : Record) × (c' ≡ Take r') × (more r' ≡ more r) × Slotted rest (xs ++ unmarked r ∷ []) (ys ++ unmarked r' ∷ []) (more r)

-- The two lists of calls, with the first one's answers between them. A call that adds no record is the same in both. One that adds a
-- record adds one in the other list too, and p is the same. xs and ys are what each has added to the packet so far:
-- where the packet ends, and at the end of the lists, ys is xs in another order.
abbrev pub Alike : List Record → List Record → List Call → List (Result Answer Refusal) → List Call → Type 0
Alike xs ys [] ps [] = IsPermutation xs ys
Alike xs ys [] ps (c' ∷ cs') = ⊥
Alike xs ys (c ∷ cs) [] cs' = ⊥
Alike xs ys (c ∷ cs) (p ∷ ps) [] = ⊥
Alike xs ys (c ∷ cs) (p ∷ ps) (c' ∷ cs') = Next (λ xs ys. Alike xs ys cs ps cs') xs ys c c' (takes c p)

-- where a call adds a record, a take in its place adds its own
own : (c : Call) (v : Result Answer Fault) (r r' : Record) → added c v ≡ Some r → added (Take r') v ≡ Some r'
own (Take s) (Ok a) r r' e = refl
own (Take s) (Err f) r r' e = tested (ltb 10 (number f.refusal)) e
  where
    tested : (b : Bool) → cond b (Some s) None ≡ Some r → cond b (Some r') None ≡ Some r'
    tested true g = refl
    tested false g = absurd (none_some r g)
own AskTotals v r r' e = absurd (none_some r e)
own Close v r r' e = absurd (none_some r e)

module _ (rest rest' : List Record → List (List Record)) (Rest : List Record → List Record → Type 0)
    (ih : (xs ys : List Record) → AllZip IsPermutation (rest xs) (rest' ys) → Rest xs ys) where
  divided : (xs ys : List Record) (p q : Bool) → q ≡ p → AllZip IsPermutation (completing rest xs p) (completing rest' ys q) → Slotted Rest xs ys p
  divided xs ys true true e h = ih xs ys h
  divided xs ys true false e h = absurd (false≢true e)
  divided xs ys false true e h = absurd (true≢false e)
  divided xs ys false false e h = (h.0, ih [] [] h.1)

  next_from : (c c' : Call) (v : Result Answer Fault) (xs ys : List Record) (o : Option Record) → added c v ≡ o → InPlace c o c'
      → AllZip IsPermutation (adding rest xs o) (adding rest' ys (added c' v)) → Next Rest xs ys c c' o
  next_from c c' v xs ys None e i h =
      (i, ih xs ys (subst (λ (o : Option Record). AllZip IsPermutation (rest xs) (adding rest' ys o)) (ap (λ (d : Call). added d v) i ∙ e) h))
  next_from c (Take r') v xs ys (Some r) e i h = (
    r',
    refl,
    i,
    divided (xs ++ unmarked r ∷ []) (ys ++ unmarked r' ∷ []) (more r) (more r') i
        (subst (λ (o : Option Record). AllZip IsPermutation (adding rest xs (Some r)) (adding rest' ys o)) (own c v r r' e) h),
  )
  next_from c AskTotals v xs ys (Some r) e i h = absurd i
  next_from c Close v xs ys (Some r) e i h = absurd i

pub alike_from : (cs : List Call) (vs : List (Result Answer Fault)) (cs' : List Call) (xs ys : List Record) → InPlaces cs vs cs'
    → AllZip IsPermutation (packets xs cs vs) (packets ys cs' vs) → Alike xs ys cs (map plain vs) cs'
alike_from [] vs [] xs ys i h = h.0
alike_from [] vs (c' ∷ cs') xs ys i h = absurd i
alike_from (c ∷ cs) [] [] xs ys i h = absurd i
alike_from (c ∷ cs) [] (c' ∷ cs') xs ys i h = absurd i
alike_from (c ∷ cs) (v ∷ vs) [] xs ys i h = absurd i
alike_from (c ∷ cs) (v ∷ vs) (c' ∷ cs') xs ys i h =
    subst (λ (o : Option Record). Next (λ xs ys. Alike xs ys cs (map plain vs) cs') xs ys c c' o) (takes_plain c v)
    (next_from (λ ys. packets ys cs vs) (λ ys. packets ys cs' vs) (λ xs ys. Alike xs ys cs (map plain vs) cs') (λ xs ys e. alike_from cs vs cs' xs ys i.1 e)
    c c' v xs ys (added c v) refl i.0 h)
