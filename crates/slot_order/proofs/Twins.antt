-- Two books that differ in the order of slots alone: the same stands against a call, and a packet has the same verdict.
-- Assumes nothing.
use Rattle.std.proofs.Common.{◌≡◌, ℕ, ◌+◌, ◌<◌, ◌≤◌, cond, List, [], ◌∷◌, ◌++◌, map, length, Some, None, Option, sym, refl, ap, ◌∙◌, subst₂, inl, inr, ⊎_elim, arith, length-append}
use mathlib.Core.Logic.{⊎_map}
use Rattle.std.specs.List.Sorted.{IsPermutation}
use Rattle.std.specs.List.{AllZip}
use Rattle.std.proofs.lemmas.List.{length-map}
use Rattle.std.proofs.lemmas.List.Sorted.{IsPermutation-sym}
use Rattle.std.proofs.lemmas.List.Elements.{AllZip-push, length_all_zip}
use Rattle.isa.specs.declared.record.Record.{Record}
use Rattle.isa.specs.declared.row.Row.{Row}
use Rattle.admission.specs.declared.instruction.Instruction.{Instruction}
use Rattle.admission.specs.Refusals.{RefusedBy, Least}
use Rattle.runs.specs.declared.valuations.Valuations.{Valuations}
use Rattle.constraints.specs.declared.fault.Accepted.{Accepted as Issue}
use Rattle.constraints.specs.Constraints.{Breaks}
use Rattle.constraints.specs.Faults.{AcceptedAs}
use Rattle.constraints.proofs.Moving.{each_back}
use Rattle.constraints.proofs.Reordering.{breaks_stays, stalls_stay, length_stays, cycles_stay}
use Rattle.book.specs.declared.calls.Totals.{Totals}
use Rattle.book.specs.Books.{Rules, Book, more, with, Untaken, Taken, Unclosed, totals, accepting, holding}
use Rattle.slot_order.specs.Orders.{unmarked}
use Rattle.slot_order.proofs.Holding.{map_shuffled, as_meant, Good, with_more}

-- numbers of refusals: up to 10 of a call, above of a packet
refused_le : (o : Option Row) (r : Record) (n : ℕ) → RefusedBy o r n → n ≤ 10
refused_le None r n h = omega arith
refused_le (Some w) r n h =
    ⊎_elim (λ (e, _). omega arith) (⊎_elim (λ (e, _). omega arith) (⊎_elim (λ (e, _). omega arith) (⊎_elim (λ (e, _). omega arith) (λ (e, _). omega arith)))) h

pub untaken_le : (k : Rules) (b : Book) (r : Record) (n : ℕ) → Untaken k b r n → n ≤ 10
untaken_le k b r n =
    ⊎_elim (λ (e, _). omega arith) (⊎_elim (λ (e, _, _). omega arith) (⊎_elim (refused_le (k.rows r.operation) r n) (λ (e, _, _). omega arith)))

pub breaks_gt : (lawful start : Valuations) (past : List (List Instruction)) (xs : List Instruction) (n : ℕ) → Breaks lawful start past xs n → 10 < n
breaks_gt lawful start past xs n =
    ⊎_elim
    (λ (k, s, t, (x, y, st, at-t, apart, c)).
    ⊎_elim (λ (_, b). ⊎_elim (λ (e, _). omega arith) (⊎_elim (λ (e, _). omega arith) (⊎_elim (λ (e, _). omega arith) (⊎_elim (λ (e, _). omega arith) (λ (e, _). omega arith)))) b)
    (⊎_elim (λ (e, _). omega arith) (λ (e, _, _). omega arith)) c)
    (⊎_elim (λ (e, _). omega arith) (λ (e, _). omega arith))

-- one packet behind others, and both in another order
module _ (lawful start : Valuations) (past past' : List (List Instruction)) (xs xs' : List Instruction) (e : AllZip IsPermutation past past') (s : IsPermutation xs xs') where
  breaks_back : (n : ℕ) → Breaks lawful start past' xs' n → Breaks lawful start past xs n
  breaks_back = breaks_stays lawful start past' past xs' xs (each_back past past' e) (IsPermutation-sym xs xs' s)

  pub least_stays : (n : ℕ) → Least (Breaks lawful start past xs) n → Least (Breaks lawful start past' xs') n
  least_stays n l = (breaks_stays lawful start past past' xs xs' e s n l.0, λ m h b. l.1 m h (breaks_back m b))

  pub accepted_stays : (a : Issue) → AcceptedAs lawful start past xs a → AcceptedAs lawful start past' xs' a
  accepted_stays a w = record {
    sound = λ n b. w.sound n (breaks_back n b);
    issue = w.issue ∙ sym (cycles_stay past past' e);
    lasts = w.lasts ∙ sym (length_stays xs xs' s);
    stall = (
      λ h. stalls_stay past past' xs xs' e s (w.stall.0 h),
      λ h. w.stall.1 (stalls_stay past' past xs' xs (each_back past past' e) (IsPermutation-sym xs xs' s) h),
    );
  }

empty : {X : Type 0} (xs : List X) → length xs ≡ 0 → xs ≡ []
empty [] h = refl
empty (x ∷ xs) h = absurd (omega arith)

-- two books, with the records of their open packets
pub record Twin (k : Rules) (b b' : Book) (xs ys : List Record) : Type 0 where
  pub past : AllZip IsPermutation b.accepted b'.accepted
  pub many : length xs ≡ length ys
  pub count : b.stalls ≡ b'.stalls
  pub shut : b.closed ≡ b'.closed
  pub first : b.held ≡ map (as_meant k) xs
  pub second : b'.held ≡ map (as_meant k) ys

module _ (k : Rules) where
  pub twin_back : (b b' : Book) (xs ys : List Record) → Twin k b b' xs ys → Twin k b' b ys xs
  twin_back b b' xs ys t =
      record { past = each_back b.accepted b'.accepted t.past; many = sym t.many; count = sym t.count; shut = sym t.shut; first = t.second; second = t.first }

  module _ (b b' : Book) (xs ys : List Record) (t : Twin k b b' xs ys) where
    as_long : length b.accepted ≡ length b'.accepted
    as_long = length_all_zip IsPermutation b.accepted b'.accepted t.past

    pub as_many : length b.held ≡ length b'.held
    as_many = ap length t.first ∙ length-map xs (as_meant k) ∙ t.many ∙ sym (length-map ys (as_meant k)) ∙ sym (ap length t.second)

    -- what stands against a record stands against it in the other book
    pub untaken_stays : (r : Record) (n : ℕ) → Untaken k b r n → Untaken k b' r n
    untaken_stays r n =
        ⊎_map (λ (e, h). (e, sym t.shut ∙ h))
        (⊎_map (λ (e, h, g). (e, sym as_long ∙ h, empty b'.held (sym as_many ∙ ap length g)))
        (⊎_map (λ h. h) (λ (e, h, g). (e, sym as_many ∙ h, g))))

    pub unclosed_stays : (n : ℕ) → Unclosed b n → Unclosed b' n
    unclosed_stays n = ⊎_map (λ (e, h). (e, sym t.shut ∙ h)) (λ (e, h). (e, omega (arith, as_many)))

    pub totals_stay : totals b ≡ totals b'
    totals_stay = made (length b.accepted) (length b'.accepted) _ _ b.stalls b'.stalls as_long (sym (cycles_stay b.accepted b'.accepted t.past)) t.count
      where
        made : (p p' c c' s s' : ℕ) → p ≡ p' → c ≡ c' → s ≡ s' → ◌≡◌ {A = Totals} (record { packets = p; cycles = c; stalls = s }) (record { packets = p'; cycles = c'; stalls = s' })
        made p p' c c' s s' e f g = cc

  module _ (b b' : Book) (xs ys : List Record) (t : Twin k b b' xs ys) (r r' : Record) (same : more r' ≡ more r) where
    -- another record with the same p is taken by the other book
    pub taken_stays : Good k r' → Taken k b r → Taken k b' r'
    taken_stays g w n h =
        let back : Untaken k b r' n = untaken_stays b' b ys xs (twin_back b b' xs ys t) r' n h in
        ⊎_elim (λ a. w n (inl a)) (⊎_elim (λ a. w n (inr (inl a))) (⊎_elim (g n) (λ (e, a, p). w n (inr (inr (inr (e, a, sym same ∙ p))))))) back

    module _ (g : Good k (unmarked r)) (g' : Good k (unmarked r')) where
      pub twin_open : Twin k (holding b (with k b r)) (holding b' (with k b' r')) (xs ++ unmarked r ∷ []) (ys ++ unmarked r' ∷ [])
      twin_open = record {
        past = t.past;
        many = length-append xs (unmarked r ∷ []) ∙ ap (λ (n : ℕ). n + 1) t.many ∙ sym (length-append ys (unmarked r' ∷ []));
        count = t.count;
        shut = t.shut;
        first = with_more k b xs r t.first g;
        second = with_more k b' ys r' t.second g';
      }

      pub with_shuffled : IsPermutation (xs ++ unmarked r ∷ []) (ys ++ unmarked r' ∷ []) → IsPermutation (with k b r) (with k b' r')
      with_shuffled s =
          subst₂ IsPermutation (sym (with_more k b xs r t.first g)) (sym (with_more k b' ys r' t.second g'))
          (map_shuffled (as_meant k) (xs ++ unmarked r ∷ []) (ys ++ unmarked r' ∷ []) s)

      pub twin_accepted : (a : Issue) → IsPermutation (with k b r) (with k b' r') → Twin k (accepting b (with k b r) a) (accepting b' (with k b' r') a) [] []
      twin_accepted a s = record {
        past = AllZip-push IsPermutation b.accepted b'.accepted (with k b r) (with k b' r') t.past s;
        many = refl;
        count = ap (λ (n : ℕ). n + cond a.stall 1 0) t.count;
        shut = t.shut;
        first = refl;
        second = refl;
      }

  pub twin_dropped : (b b' : Book) (xs ys : List Record) → Twin k b b' xs ys → Twin k (holding b []) (holding b' []) [] []
  twin_dropped b b' xs ys t = record { past = t.past; many = refl; count = t.count; shut = t.shut; first = refl; second = refl }
