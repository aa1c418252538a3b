-- The entries of a file one by one, and by their places in the bytes. Assumes nothing.
use Rattle.std.proofs.Common.{◌≡◌, ℕ, zero, suc, ◌+◌, ◌*◌, ◌<◌, All, IsSome, List, [], length, get_or, take, drop, sym, refl, ap, ◌∙◌, subst, subst₂, le_of_suc-le-suc, not-suc-le-zero, arith}
use Rattle.std.proofs.lemmas.List.{drop-drop}
use Rattle.std.specs.Simd.{first_chunks}
use Rattle.rowfile.specs.Entries.{operation, row_of}
use Rattle.rowfile.specs.Files.{row_count, entry, entries, Rising, LaidOut, WellFormed}

pub length_chunked : {X : Type 0} (n k : ℕ) (xs : List X) → length (first_chunks n k xs) ≡ k
length_chunked n zero xs = refl
length_chunked n (suc k) xs = ap suc (length_chunked n k (drop n xs))

chunk_at : {X : Type 0} (n k : ℕ) (xs : List X) (i : ℕ) (d : List X) → i < k → get_or (first_chunks n k xs) i d ≡ take n (drop (n * i) xs)
chunk_at n zero xs i d h = absurd (not-suc-le-zero h)
chunk_at n (suc k) xs zero d h = let e : n * 0 ≡ 0 = omega arith in ap (λ m. take n (drop m xs)) (sym e)
chunk_at n (suc k) xs (suc i) d h =
    chunk_at n k (drop n xs) i d (le_of_suc-le-suc h)
    ∙ ap (take n) (drop-drop (n * i) n xs ∙ ap (λ m. drop m xs) (sym (native.Mathlib.Nat.mul-suc n i ∙ native.Mathlib.Nat.add_comm (n * i) n)))

pub length_entries : (bs : List ℕ) → length (entries bs) ≡ row_count bs
length_entries bs = length_chunked 8 (row_count bs) (drop 2 bs)

pub entry_at : (bs : List ℕ) (i : ℕ) (d : List ℕ) → i < row_count bs → get_or (entries bs) i d ≡ entry bs i
entry_at bs i d h = chunk_at 8 (row_count bs) (drop 2 bs) i d h ∙ ap (take 8) (drop-drop (8 * i) 2 bs)

-- the first number is below the second
abbrev Below : List ℕ → List ℕ → Type 0
Below d e = operation d < operation e

module _ (bs : List ℕ) (es : List (List ℕ)) (same : es ≡ entries bs) where
  long : length es ≡ row_count bs
  long = ap length same ∙ length_entries bs

  at_place : (i : ℕ) (d : List ℕ) → i < row_count bs → get_or es i d ≡ entry bs i
  at_place i d h = ap (λ l. get_or l i d) same ∙ entry_at bs i d h

  -- a file that is laid out is well formed where its entries have rows and rise
  pub well_formed : LaidOut bs → All (λ e. IsSome (row_of e)) es → Rising es → WellFormed bs
  well_formed laid readable rising = record {
    laid = laid;
    readable = λ i h. subst (λ e. IsSome (row_of e)) (at_place i [] h) (readable i [] (rw long h));
    rising = λ i h. subst₂ Below (at_place i [] (omega arith)) (at_place (i + 1) [] h) (rising i [] (rw long h));
  }

  module _ (good : WellFormed bs) where
    pub readable_entries : All (λ e. IsSome (row_of e)) es
    readable_entries i d h = let lt : i < row_count bs = rw (← long) h in subst (λ e. IsSome (row_of e)) (sym (at_place i d lt)) (good.readable i lt)

    pub rising_entries : Rising es
    rising_entries i d h = let lt : i + 1 < row_count bs = rw (← long) h in subst₂ Below (sym (at_place i d (omega arith))) (sym (at_place (i + 1) d lt)) (good.rising i lt)
