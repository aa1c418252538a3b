-- The set that goes with a write: its start, one packet more, and the test whether some run performs two writes.
-- Assumes nothing.
use Rattle.std.proofs.Common.{◌≡◌, ℕ, ◌+◌, ◌<◌, ◌≤◌, cond, ltb, List, [], ◌∷◌, ◌++◌, length, get_or, sym, refl, ap, ◌∙◌, subst, inl, inr, ⊎_elim, arith, ◌↔◌}
use Rattle.std.proofs.lemmas.List.{get_or_push, get_or_append_left}
use Rattle.std.proofs.lemmas.Bool.{cases_lt, cases_eq, lt-ltb, le-ltb, cond-true, cond-false}
use Rattle.isa.specs.declared.condition.Condition.{Condition}
use Rattle.isa.specs.Bits.{bit}
use Rattle.runs.specs.declared.valuations.Valuations.{Valuations}
use Rattle.runs.specs.declared.valuations.Changes.{Changes}
use Rattle.runs.specs.Valuations.{Meets, Has, MayChange, After}
use Rattle.runs.specs.Runs.{Run, Ends, Both, Carries, Reaches, none, MayOf}

-- the set is just what two sets share
abbrev pub Shared : Valuations → Valuations → Valuations → Type 0
Shared r s t = (v : ℕ) → Has r v ↔ (Has s v × Has t v)

-- a run up to n, and then v
abbrev then : (ℕ → ℕ) → ℕ → ℕ → ℕ → ℕ
then run n v k = cond (ltb k n) (run k) v

then_before : (run : ℕ → ℕ) (n v k : ℕ) → k < n → then run n v k ≡ run k
then_before run n v k h = cond-true (ltb k n) (run k) v (lt-ltb k n h)

then_at : (run : ℕ → ℕ) (n v k : ℕ) → n ≤ k → then run n v k ≡ v
then_at run n v k h = cond-false (ltb k n) (run k) v (le-ltb k n h)

-- v can occur
abbrev Occurs : Valuations → ℕ → Type 0
Occurs lawful v = (v < 64) × Has lawful v

module _ (lawful start : Valuations) (may : ℕ → ℕ → Type 0) where
  run_less : (m n : ℕ) (run : ℕ → ℕ) → m ≤ n → Run lawful start may n run → Run lawful start may m run
  run_less m n run le r = record { begins = r.begins; each = λ k h. r.each k (omega arith); next = λ k i h hi d. r.next k i (omega arith) hi d }

  run_more : (n v : ℕ) (run : ℕ → ℕ) → Run lawful start may n run → Occurs lawful v
      → ((i : ℕ) → i < 6 → (bit (run n) i ≡ bit v i → ⊥) → may n i) → Run lawful start may (n + 1) (then run (n + 1) v)
  run_more n v run r l s = record {
    begins = subst (Has start) (sym (then_before run (n + 1) v 0 (omega arith))) r.begins;
    each = λ k h. ⊎_elim (λ lt. subst (Occurs lawful) (sym (then_before run (n + 1) v k lt)) (r.each k (omega arith)))
        (λ le. subst (Occurs lawful) (sym (then_at run (n + 1) v k le)) l) (cases_lt k (n + 1));
    next = λ k i h hi d.
        let here : bit (then run (n + 1) v k) i ≡ bit (run k) i = ap (λ (x : ℕ). bit x i) (then_before run (n + 1) v k (omega arith)) in
        ⊎_elim
        (λ lt. r.next k i lt hi (λ same. d (here ∙ same ∙ ap (λ (x : ℕ). bit x i) (sym (then_before run (n + 1) v (k + 1) (omega arith))))))
        (λ le. let e : n ≡ k = omega arith in
        subst (λ (x : ℕ). may x i) e
        (s i hi (λ same. d (here ∙ ap (λ (x : ℕ). bit (run x) i) (sym e) ∙ same ∙ ap (λ (x : ℕ). bit x i) (sym (then_at run (n + 1) v (k + 1) (omega arith))))))) (cases_lt k n);
  }

  -- at the first packet: the lawful valuations of the start
  pub reaches_first : (r : Valuations) → Shared r lawful start → Reaches lawful start may 0 r
  reaches_first r shared v hv = (
    λ h. let (l, s) = (shared v).0 h in
        ((λ _. v), record { begins = s; each = λ k le. (hv, l); next = λ k i lt hi d. absurd (d refl) }, tt, refl),
    λ a. let e = a.3 in (shared v).1 (subst (Has lawful) e (a.1.each 0 (omega arith)).1, subst (Has start) e a.1.begins),
  )

  -- a write of packet n under c, of what can be reached there
  pub carries_start : (n : ℕ) (c : Condition) (reach s r : Valuations) → ((v : ℕ) → v < 64 → Has s v ↔ Meets c v) → Shared r reach s
      → Reaches lawful start may n reach → Carries lawful start may n n c r
  carries_start n c reach s r sat shared reached v hv = (
    λ h. let (l, m) = (shared v).0 h in
        let a = (reached v hv).0 l in
        (a.0, a.1, subst (Meets c) (sym a.3) ((sat v hv).0 m), a.3),
    λ a. (shared v).1 ((reached v hv).1 (a.0, a.1, tt, a.3), (sat v hv).1 (subst (Meets c) a.3 a.2)),
  )

  -- one packet more, with the registers that may change
  pub carries_more : (n j : ℕ) (c : Condition) (set r : Valuations) (m : Changes) → j ≤ n → ((i : ℕ) → i < 6 → MayChange m i ↔ may n i)
      → ((w : ℕ) → w < 64 → Has r w ↔ (Has lawful w × After set m w))
      → Carries lawful start may n j c set → Carries lawful start may (n + 1) j c r
  carries_more n j c set r m hj masked stepped held w hw = (there, back)
    where
      there : Has r w → Ends lawful start may (n + 1) j c w
      there h =
          let a = (stepped w hw).0 h in
          let b = (held a.1.0 a.1.1).0 a.1.2 in
          let run = b.0 in (
            then run (n + 1) w,
            run_more n w run b.1 (hw, a.0)
                (λ i hi d. ⊎_elim (masked i hi).0 (λ e. absurd (d (ap (λ (x : ℕ). bit x i) b.3 ∙ e))) (a.1.3 i hi)),
            subst (Meets c) (sym (then_before run (n + 1) w j (omega arith))) b.2,
            then_at run (n + 1) w (n + 1) (omega arith),
          )

      back : Ends lawful start may (n + 1) j c w → Has r w
      back b =
          let run = b.0 in
          let hv = (b.1.each n (omega arith)).0 in
          (stepped w hw).1 (
            subst (Has lawful) b.3 (b.1.each (n + 1) (omega arith)).1,
            (
              run n,
              hv,
              (held (run n) hv).1 (run, run_less n (n + 1) run (omega arith) b.1, b.2, refl),
              λ i hi. ⊎_elim inr (λ d. inl ((masked i hi).1 (b.1.next n i (omega arith) hi (λ same. d (same ∙ ap (λ (x : ℕ). bit x i) b.3)))))
                  (cases_eq (bit (run n) i) (bit w i)),
            ),
          )

  -- a write that is carried, and one of packet n: some run performs both just if the sets share a valuation
  pub both_there : (n j : ℕ) (c d : Condition) (s t : Valuations) → Carries lawful start may n j c s → Carries lawful start may n n d t
      → (v : ℕ) × (v < 64) × Has s v × Has t v → Both lawful start may n j c n d
  both_there n j c d s t held last (v, hv, hs, ht) =
      let a = (held v hv).0 hs in
      let b = (last v hv).0 ht in
      (a.0, a.1, a.2, subst (Meets d) (b.3 ∙ sym a.3) b.2)

  pub both_back : (n j : ℕ) (c d : Condition) (s t : Valuations) → Carries lawful start may n j c s → Carries lawful start may n n d t
      → Both lawful start may n j c n d → (v : ℕ) × (v < 64) × Has s v × Has t v
  both_back n j c d s t held last a =
      let run = a.0 in
      let hv = (a.1.each n (omega arith)).0 in
      (run n, hv, (held (run n) hv).1 (run, a.1, a.2, refl), (last (run n) hv).1 (run, a.1, a.3, refl))

-- runs under relations that say the same
pub run_like : (lawful start : Valuations) (n : ℕ) (may may' : ℕ → ℕ → Type 0) (run : ℕ → ℕ) → ((k i : ℕ) → k < n → i < 6 → may k i → may' k i)
    → Run lawful start may n run → Run lawful start may' n run
run_like lawful start n may may' run f r = record { begins = r.begins; each = r.each; next = λ k i hk hi d. f k i hk hi (r.next k i hk hi d) }

pub carries_like : (lawful start : Valuations) (n : ℕ) (may may' : ℕ → ℕ → Type 0) (j : ℕ) (c : Condition) (set : Valuations)
    → ((k i : ℕ) → k < n → i < 6 → may k i → may' k i) → ((k i : ℕ) → k < n → i < 6 → may' k i → may k i)
    → Carries lawful start may n j c set → Carries lawful start may' n j c set
carries_like lawful start n may may' j c set f g held v hv = (
  λ h. let a = (held v hv).0 h in (a.0, run_like lawful start n may may' a.0 f a.1, a.2, a.3),
  λ a. (held v hv).1 (a.0, run_like lawful start n may' may a.0 g a.1, a.2, a.3),
)

-- with what may change after the last packet put at the end of the list
pub carries_push : (lawful start : Valuations) (ms : List Changes) (j : ℕ) (c : Condition) (set r : Valuations) (m : Changes) → j ≤ length ms
    → ((w : ℕ) → w < 64 → Has r w ↔ (Has lawful w × After set m w))
    → Carries lawful start (MayOf ms) (length ms) j c set → Carries lawful start (MayOf (ms ++ m ∷ [])) (length ms + 1) j c r
carries_push lawful start ms j c set r m hj stepped held =
    let last : get_or (ms ++ m ∷ []) (length ms) none ≡ m = get_or_push ms m none (length ms) refl in
    let old : (k : ℕ) → k < length ms → get_or (ms ++ m ∷ []) k none ≡ get_or ms k none = λ k h. get_or_append_left ms (m ∷ []) none k h in
    carries_more lawful start (MayOf (ms ++ m ∷ [])) (length ms) j c set r m hj
    (λ i hi. (λ h. subst (λ x. MayChange x i) (sym last) h, λ h. subst (λ x. MayChange x i) last h)) stepped
    (carries_like lawful start (length ms) (MayOf ms) (MayOf (ms ++ m ∷ [])) j c set
    (λ k i hk hi h. subst (λ x. MayChange x i) (sym (old k hk)) h) (λ k i hk hi h. subst (λ x. MayChange x i) (old k hk) h) held)
