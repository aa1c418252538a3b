-- The records that a book was given for its open packet, and the instructions that it holds for them.
-- Assumes nothing.
use Rattle.std.proofs.Common.{◌≡◌, ℕ, ◌<◌, false, List, [], ◌∷◌, ◌++◌, map, length, get_or, set, Some, None, Option, sym, refl, ap, ◌∙◌, subst, ap₂, inl, inr}
use Rattle.std.specs.List as holes
use Rattle.std.specs.List.Sorted.{IsPermutation}
use Rattle.std.specs.List.{swap}
use Rattle.std.proofs.lemmas.List.{map-append, map-set, get_or-map, length-map}
use Rattle.std.proofs.lemmas.List.Sorted.{IsPermutation-refl, IsPermutation-swap, IsPermutation-keeps, IsPermutation-trans}
use Rattle.isa.specs.declared.class.Class.TheVariants.{Nop}
use Rattle.isa.specs.declared.record.Record.{Record}
use Rattle.isa.specs.declared.row.Row.{Row}
use Rattle.isa.specs.declared.width.Width.TheVariants.{Absent}
use Rattle.admission.specs.declared.instruction.Instruction.{Instruction}
use Rattle.admission.specs.Instructions.{instruction}
use Rattle.admission.specs.Refusals.{RefusedBy}
use Rattle.book.specs.Books.{Rules, Book, meant, with, Taken}
use Rattle.slot_order.specs.Orders.{unmarked}
use Rattle.slot_order.proofs.Marks.{instruction_stays, refused_marked, refused_unmarked}

-- lists in another order, each element by a function
map_exchanged : {X Y : Type 0} (f : X → Y) (l : List X) (i j : ℕ) → i < length l → j < length l → map f (swap l i j) ≡ holes.swap (map f l) i j
map_exchanged f [] i j hi hj = refl
map_exchanged {X} {Y} f (d ∷ l) i j hi hj =
    map-set f (set (d ∷ l) i (get_or (d ∷ l) j d)) j (get_or (d ∷ l) i d) ∙ ap (λ (ys : List Y). set ys j (f (get_or (d ∷ l) i d))) (map-set f (d ∷ l) i (get_or (d ∷ l) j d))
    ∙ ap₂ (λ (a b : Y). set (set (map f (d ∷ l)) i a) j b) (sym (get_or-map f (d ∷ l) j d (f d) hj)) (sym (get_or-map f (d ∷ l) i d (f d) hi))

pub map_shuffled : {X Y : Type 0} (f : X → Y) (xs ys : List X) → IsPermutation xs ys → IsPermutation (map f xs) (map f ys)
map_shuffled {X} f xs ys = IsPermutation-keeps xs (λ l. IsPermutation (map f xs) (map f l)) (IsPermutation-refl (map f xs)) step ys
  where
    step : (l : List X) (i j : ℕ) → i < length l → j < length l → IsPermutation (map f xs) (map f l) → IsPermutation (map f xs) (map f (swap l i j))
    step l i j hi hj s =
        IsPermutation-trans (map f xs) (map f l) (map f (swap l i j)) s
        (IsPermutation-swap (map f l) (map f (swap l i j)) i j (subst (λ (n : ℕ). i < n) (sym (length-map l f)) hi) (subst (λ (n : ℕ). j < n) (sym (length-map l f)) hj) (map_exchanged f l i j hi hj))

-- the row, or that of a NOP where there is none
abbrev row_or : Option Row → Row
row_or None = record { class = Nop; units = record { mask = 0 }; nonaligned = false; s1 = Absent; s2 = Absent; dst = Absent }
row_or (Some w) = w

-- the instruction of a record
abbrev pub as_meant : Rules → Record → Instruction
as_meant k r = instruction (row_or (k.rows r.operation)) r

-- nothing stands against the record itself
abbrev pub Good : Rules → Record → Type 0
Good k r = (n : ℕ) → RefusedBy (k.rows r.operation) r n → ⊥

meant_good : (o : Option Row) (r : Record) → ((n : ℕ) → RefusedBy o r n → ⊥) → meant o r ≡ instruction (row_or o) r ∷ []
meant_good None r g = absurd (g 3 refl)
meant_good (Some w) r g = refl

module _ (k : Rules) where
  pub good_taken : (b : Book) (r : Record) → Taken k b r → Good k (unmarked r)
  good_taken b r t n u = t n (inr (inr (inl (refused_marked r (k.rows r.operation) n u))))

  pub good_marked : (r : Record) → Good k (unmarked r) → Good k r
  good_marked r g n u = g n (refused_unmarked r (k.rows r.operation) n u)

  -- the instructions of the records, and one more
  pub with_more : (b : Book) (xs : List Record) (r : Record) → b.held ≡ map (as_meant k) xs → Good k (unmarked r) → with k b r ≡ map (as_meant k) (xs ++ unmarked r ∷ [])
  with_more b xs r e g =
      ap₂ ◌++◌ e (meant_good (k.rows r.operation) r (good_marked r g) ∙ ap (λ (i : Instruction). i ∷ []) (sym (instruction_stays r (row_or (k.rows r.operation)))))
      ∙ sym (map-append (as_meant k) xs (unmarked r ∷ []))
