-- Lists of calls that differ in the order of slots alone have the same answers, places aside.
-- Assumes nothing.
use Rattle.std.proofs.Common.{◌≡◌, ℕ, ◌+◌, ◌<◌, ◌≤◌, Bool, false, ltb, List, [], ◌∷◌, ◌++◌, map, Some, None, Ok, Err, Option, Result, sym, refl, ap, ◌∙◌, subst, ap₂, inl, inr}
use mathlib.Core.Path.{fun_ext}
use Rattle.std.specs.List.Sorted.{IsPermutation}
use Rattle.std.specs.List.{AllByRecursion as All}
use Rattle.std.proofs.ByRecursion.{all_shuffled, All-push}
use Rattle.std.proofs.lemmas.Bool.{cond-true, cond-false, lt-ltb, le-ltb}
use Rattle.isa.specs.declared.record.Record.{Record}
use Rattle.isa.specs.declared.refusal.Refusal.{Refusal}
use Rattle.isa.specs.declared.row.Row.{Row}
use Rattle.isa.specs.Refusals.{number}
use Rattle.runs.specs.declared.valuations.Valuations.{Valuations}
use Rattle.book.specs.declared.calls.Call.{Call}
use Rattle.book.specs.declared.calls.Call.TheVariants.{Take, Totals as AskTotals, Close}
use Rattle.book.specs.declared.calls.Answer.{Answer}
use Rattle.book.specs.declared.calls.Answer.TheVariants.{Open, Accepted, Totals as Told, Closed}
use Rattle.book.specs.Books.{Rules, Book, more, with, Taken, accepting, holding, opened, SaysAll}
use Rattle.slot_order.specs.Orders.{plain, unmarked, SlotOrderLaw}
use Rattle.slot_order.proofs.Plain.{Tells, next, takes, TellsAll, all_plain, all_one}
use Rattle.slot_order.proofs.Alike.{Slotted, Next, Alike, alike_from}
use Rattle.slot_order.proofs.Holding.{Good, good_taken, good_marked}
use Rattle.slot_order.proofs.Twins.{untaken_le, breaks_gt, least_stays, accepted_stays, Twin, twin_back, untaken_stays, unclosed_stays, as_many, totals_stay, taken_stays, twin_open, with_shuffled, twin_accepted, twin_dropped}

all_front : {X : Type 0} (P : X → Type 0) (xs ys : List X) → All P (xs ++ ys) → All P xs
all_front P [] ys h = tt
all_front P (x ∷ xs) ys h = (h.0, all_front P xs ys h.1)

all_last : {X : Type 0} (P : X → Type 0) (xs : List X) (y : X) → All P (xs ++ y ∷ []) → P y
all_last P [] y h = h.0
all_last P (x ∷ xs) y h = all_last P xs y h.1

-- a refusal of 1 to 10 adds no record and leaves all as it stood, one above drops the open records
none_turned : (r : Record) (e : Refusal) → number e ≤ 10 → takes (Take r) (Err e) ≡ None
none_turned r e h = cond-false (ltb 10 (number e)) (Some r) None (le-ltb 10 (number e) h)

some_dropped : (r : Record) (e : Refusal) → 10 < number e → takes (Take r) (Err e) ≡ Some r
some_dropped r e h = cond-true (ltb 10 (number e)) (Some r) None (lt-ltb 10 (number e) h)

module _ (k : Rules) where
  next_turned : (b : Book) (r : Record) (e : Refusal) → number e ≤ 10 → next k b (Take r) (Err e) ≡ b
  next_turned b r e h = cond-false (ltb 10 (number e)) (holding b []) b (le-ltb 10 (number e) h)

  next_dropped : (b : Book) (r : Record) (e : Refusal) → 10 < number e → next k b (Take r) (Err e) ≡ holding b []
  next_dropped b r e h = cond-true (ltb 10 (number e)) (holding b []) b (lt-ltb 10 (number e) h)

  -- nothing stands against the records of the second list themselves, since the packet that they will be part of is one of the first in another order
  module _ (cs : List Call) (ps : List (Result Answer Refusal)) (cs' : List Call) where
    abbrev Rest : List Record → List Record → Type 0
    Rest xs ys = Alike xs ys cs ps cs'

    abbrev Goods : Type 0
    Goods = (b : Book) (xs ys : List Record) → All (Good k) xs → TellsAll k b cs ps → Rest xs ys → All (Good k) ys

    -- where a packet ends
    good_end : (b : Book) (xs ys : List Record) (r r' : Record) → All (Good k) xs → Taken k b r → more r ≡ false
        → Slotted Rest (xs ++ unmarked r ∷ []) (ys ++ unmarked r' ∷ []) (more r) → All (Good k) (ys ++ unmarked r' ∷ [])
    good_end b xs ys r r' g t p a =
        let x : IsPermutation (xs ++ unmarked r ∷ []) (ys ++ unmarked r' ∷ []) × Rest [] [] = subst (λ (z : Bool). Slotted Rest (xs ++ unmarked r ∷ []) (ys ++ unmarked r' ∷ []) z) p a in
        all_shuffled (Good k) (xs ++ unmarked r ∷ []) (ys ++ unmarked r' ∷ []) x.0 (All-push (Good k) xs (unmarked r) g (good_taken k b r t))

    good_next : Goods → (b : Book) (xs ys : List Record) (c c' : Call) (p : Result Answer Refusal) → All (Good k) xs → Tells k b c p → TellsAll k (next k b c p) cs ps
        → Next Rest xs ys c c' (takes c p) → All (Good k) ys
    good_next ih b xs ys (Take r) c' (Ok (Open m)) g (t, p, _) all (r', e, q, a) =
        all_front (Good k) ys (unmarked r' ∷ [])
        (ih (holding b (with k b r)) (xs ++ unmarked r ∷ []) (ys ++ unmarked r' ∷ []) (All-push (Good k) xs (unmarked r) g (good_taken k b r t)) all
        (subst (λ (z : Bool). Slotted Rest (xs ++ unmarked r ∷ []) (ys ++ unmarked r' ∷ []) z) p a))
    good_next ih b xs ys (Take r) c' (Ok (Accepted i)) g (t, p, _) all (r', e, q, a) = all_front (Good k) ys (unmarked r' ∷ []) (good_end b xs ys r r' g t p a)
    good_next ih b xs ys (Take r) c' (Ok (Told x)) g s all a = absurd s
    good_next ih b xs ys (Take r) c' (Ok (Closed x)) g s all a = absurd s
    good_next ih b xs ys (Take r) c' (Err e) g (inl l) all a =
        let h = untaken_le k b r (number e) l.0 in
        let x : (c' ≡ Take r) × Rest xs ys = subst (λ (o : Option Record). Next Rest xs ys (Take r) c' o) (none_turned r e h) a in
        ih b xs ys g (subst (λ (d : Book). TellsAll k d cs ps) (next_turned b r e h) all) x.1
    good_next ih b xs ys (Take r) c' (Err e) g (inr (t, p, l)) all a =
        let h = breaks_gt k.lawful k.lawful b.accepted (with k b r) (number e) l.0 in
        let (r', _, _, s) = subst (λ (o : Option Record). Next Rest xs ys (Take r) c' o) (some_dropped r e h) a in
        all_front (Good k) ys (unmarked r' ∷ []) (good_end b xs ys r r' g t p s)
    good_next ih b xs ys AskTotals c' p g s all a = ih (next k b AskTotals p) xs ys g all a.1
    good_next ih b xs ys Close c' p g s all a = ih (next k b Close p) xs ys g all a.1

  good_held : (cs : List Call) (ps : List (Result Answer Refusal)) (cs' : List Call) → Goods cs ps cs'
  good_held [] ps [] b xs ys g s a = all_shuffled (Good k) xs ys a g
  good_held [] ps (c' ∷ cs') b xs ys g s a = absurd a
  good_held (c ∷ cs) [] cs' b xs ys g s a = absurd s
  good_held (c ∷ cs) (p ∷ ps) [] b xs ys g s a = absurd a
  good_held (c ∷ cs) (p ∷ ps) (c' ∷ cs') b xs ys g s a = good_next cs ps cs' (good_held cs ps cs') b xs ys c c' p g s.0 s.1 a

  -- the second book gives the first one's answers
  module _ (cs : List Call) (ps : List (Result Answer Refusal)) (cs' : List Call) where
    abbrev Carries : Type 0
    Carries = (b b' : Book) (xs ys : List Record) → Twin k b b' xs ys → All (Good k) xs → TellsAll k b cs ps → Rest cs ps cs' xs ys → TellsAll k b' cs' ps

    abbrev Then : Book → Call → Result Answer Refusal → Type 0
    Then b' c' p = Tells k b' c' p × TellsAll k (next k b' c' p) cs' ps

    carry_next : Carries → (b b' : Book) (xs ys : List Record) (c c' : Call) (p : Result Answer Refusal) → Twin k b b' xs ys → All (Good k) xs → Tells k b c p
        → TellsAll k (next k b c p) cs ps → Next (Rest cs ps cs') xs ys c c' (takes c p) → Then b' c' p
    carry_next ih b b' xs ys (Take r) c' (Ok (Open m)) t g (w, p, em) all (r', e, q, s) =
        let here = good_taken k b r w in
        let held : All (Good k) (xs ++ unmarked r ∷ []) = All-push (Good k) xs (unmarked r) g here in
        let a : Rest cs ps cs' (xs ++ unmarked r ∷ []) (ys ++ unmarked r' ∷ []) = subst (λ (z : Bool). Slotted (Rest cs ps cs') (xs ++ unmarked r ∷ []) (ys ++ unmarked r' ∷ []) z) p s in
        let there = all_last (Good k) ys (unmarked r') (good_held cs ps cs' (holding b (with k b r)) (xs ++ unmarked r ∷ []) (ys ++ unmarked r' ∷ []) held all a) in
        subst (λ (d : Call). Then b' d (Ok (Open m))) (sym e) (
          (taken_stays k b b' xs ys t r r' q (good_marked k r' there) w, q ∙ p, em ∙ ap (λ (n : ℕ). n + 1) (as_many k b b' xs ys t)),
          ih (holding b (with k b r)) (holding b' (with k b' r')) (xs ++ unmarked r ∷ []) (ys ++ unmarked r' ∷ []) (twin_open k b b' xs ys t r r' q here there) held all a,
        )
    carry_next ih b b' xs ys (Take r) c' (Ok (Accepted i)) t g (w, p, ok) all (r', e, q, s) =
        let here = good_taken k b r w in
        let there = all_last (Good k) ys (unmarked r') (good_end cs ps cs' b xs ys r r' g w p s) in
        let x : IsPermutation (xs ++ unmarked r ∷ []) (ys ++ unmarked r' ∷ []) × Rest cs ps cs' [] [] =
        subst (λ (z : Bool). Slotted (Rest cs ps cs') (xs ++ unmarked r ∷ []) (ys ++ unmarked r' ∷ []) z) p s in
        let order = with_shuffled k b b' xs ys t r r' q here there x.0 in
        subst (λ (d : Call). Then b' d (Ok (Accepted i))) (sym e) (
          (taken_stays k b b' xs ys t r r' q (good_marked k r' there) w, q ∙ p, accepted_stays k.lawful k.lawful b.accepted b'.accepted (with k b r) (with k b' r') t.past order i ok),
          ih (accepting b (with k b r) i) (accepting b' (with k b' r') i) [] [] (twin_accepted k b b' xs ys t r r' q here there i order) tt all x.1,
        )
    carry_next ih b b' xs ys (Take r) c' (Ok (Told x)) t g s all a = absurd s
    carry_next ih b b' xs ys (Take r) c' (Ok (Closed x)) t g s all a = absurd s
    carry_next ih b b' xs ys (Take r) c' (Err e) t g (inl l) all a =
        let h = untaken_le k b r (number e) l.0 in
        let x : (c' ≡ Take r) × Rest cs ps cs' xs ys = subst (λ (o : Option Record). Next (Rest cs ps cs') xs ys (Take r) c' o) (none_turned r e h) a in
        subst (λ (d : Call). Then b' d (Err e)) (sym x.0) (
          inl (untaken_stays k b b' xs ys t r (number e) l.0, λ m lt u. l.1 m lt (untaken_stays k b' b ys xs (twin_back k b b' xs ys t) r m u)),
          subst (λ (d : Book). TellsAll k d cs' ps) (sym (next_turned b' r e h))
              (ih b b' xs ys t g (subst (λ (d : Book). TellsAll k d cs ps) (next_turned b r e h) all) x.1),
        )
    carry_next ih b b' xs ys (Take r) c' (Err e) t g (inr (w, p, l)) all a =
        let h = breaks_gt k.lawful k.lawful b.accepted (with k b r) (number e) l.0 in
        let (r', c-is, q, s) = subst (λ (o : Option Record). Next (Rest cs ps cs') xs ys (Take r) c' o) (some_dropped r e h) a in
        let here = good_taken k b r w in
        let there = all_last (Good k) ys (unmarked r') (good_end cs ps cs' b xs ys r r' g w p s) in
        let x : IsPermutation (xs ++ unmarked r ∷ []) (ys ++ unmarked r' ∷ []) × Rest cs ps cs' [] [] =
        subst (λ (z : Bool). Slotted (Rest cs ps cs') (xs ++ unmarked r ∷ []) (ys ++ unmarked r' ∷ []) z) p s in
        let order = with_shuffled k b b' xs ys t r r' q here there x.0 in
        subst (λ (d : Call). Then b' d (Err e)) (sym c-is) (
          inr (taken_stays k b b' xs ys t r r' q (good_marked k r' there) w, q ∙ p, least_stays k.lawful k.lawful b.accepted b'.accepted (with k b r) (with k b' r') t.past order (number e) l),
          subst (λ (d : Book). TellsAll k d cs' ps) (sym (next_dropped b' r' e h))
              (ih (holding b []) (holding b' []) [] [] (twin_dropped k b b' xs ys t) tt (subst (λ (d : Book). TellsAll k d cs ps) (next_dropped b r e h) all) x.1),
        )
    carry_next ih b b' xs ys AskTotals c' (Ok (Open n)) t g s all a = absurd s
    carry_next ih b b' xs ys AskTotals c' (Ok (Accepted i)) t g s all a = absurd s
    carry_next ih b b' xs ys AskTotals c' (Ok (Told x)) t g s all (e, a) =
        subst (λ (d : Call). Then b' d (Ok (Told x))) (sym e) (s ∙ totals_stay k b b' xs ys t, ih b b' xs ys t g all a)
    carry_next ih b b' xs ys AskTotals c' (Ok (Closed x)) t g s all a = absurd s
    carry_next ih b b' xs ys AskTotals c' (Err e) t g s all a = absurd s
    carry_next ih b b' xs ys Close c' (Ok (Open n)) t g s all a = absurd s
    carry_next ih b b' xs ys Close c' (Ok (Accepted i)) t g s all a = absurd s
    carry_next ih b b' xs ys Close c' (Ok (Told x)) t g s all a = absurd s
    carry_next ih b b' xs ys Close c' (Ok (Closed x)) t g s all (e, a) =
        let twin : Twin k (next k b Close (Ok (Closed x))) (next k b' Close (Ok (Closed x))) xs ys =
        record { past = t.past; many = t.many; count = t.count; shut = refl; first = t.first; second = t.second } in
        subst (λ (d : Call). Then b' d (Ok (Closed x))) (sym e) (
          (λ n u. s.0 n (unclosed_stays k b' b ys xs (twin_back k b b' xs ys t) n u), s.1 ∙ totals_stay k b b' xs ys t),
          ih (next k b Close (Ok (Closed x))) (next k b' Close (Ok (Closed x))) xs ys twin g all a,
        )
    carry_next ih b b' xs ys Close c' (Err f) t g s all (e, a) =
        subst (λ (d : Call). Then b' d (Err f)) (sym e)
        ((unclosed_stays k b b' xs ys t (number f) s.0, λ m lt u. s.1 m lt (unclosed_stays k b' b ys xs (twin_back k b b' xs ys t) m u)), ih b b' xs ys t g all a)

  carry : (cs : List Call) (ps : List (Result Answer Refusal)) (cs' : List Call) → Carries cs ps cs'
  carry [] [] [] b b' xs ys t g s a = tt
  carry [] [] (c' ∷ cs') b b' xs ys t g s a = absurd a
  carry [] (p ∷ ps) cs' b b' xs ys t g s a = absurd s
  carry (c ∷ cs) [] cs' b b' xs ys t g s a = absurd s
  carry (c ∷ cs) (p ∷ ps) [] b b' xs ys t g s a = absurd a
  carry (c ∷ cs) (p ∷ ps) (c' ∷ cs') b b' xs ys t g s a = carry_next cs ps cs' (carry cs ps cs') b b' xs ys c c' p t g s.0 s.1 a

pub slot_order_law : SlotOrderLaw
slot_order_law k k' cs cs' vs vs' rows lawful s s' order =
    all_one k cs' (map plain vs) (map plain vs') (opened k.lawful)
    (carry k cs (map plain vs) cs' (opened k.lawful) (opened k.lawful) [] [] start tt (all_plain k cs vs (opened k.lawful) s)
    (alike_from cs vs cs' [] [] order.places order.orders))
    (all_plain k cs' vs' (opened k.lawful) (subst (λ (z : Rules). SaysAll z (opened z.lawful) cs' vs') same s'))
  where
    start : Twin k (opened k.lawful) (opened k.lawful) [] []
    start = record { past = tt; many = refl; count = refl; shut = refl; first = refl; second = refl }

    same : k' ≡ k
    same = sym (ap₂ (λ (f : ℕ → Option Row) (l : Valuations). record { rows = f; lawful = l }) (fun_ext rows) lawful)
