-- Sets of valuations at the packet judged, and one packet on; the entries that go on. Assumes nothing.
use Rattle.std.proofs.Common.{◌≡◌, ℕ, ◌+◌, ◌<◌, ◌≤◌, Bool, true, false, cond, List, [], ◌∷◌, ◌++◌, map, length, get_or, take, sym, ap, ◌∙◌, subst, arith, ◌↔◌}
use Rattle.std.specs.List.{AllByRecursion as All}
use Rattle.std.proofs.lemmas.List.Elements.{filter-append}
use Rattle.std.proofs.ByRecursion.{All-take, All-push}
use Rattle.std.proofs.lemmas.Grind.{common_steps}
use Rattle.std.proofs.lemmas.List.{length_push, take_more, map-append, append-nil}
use Rattle.isa.specs.declared.condition.Condition.{Condition}
use Rattle.admission.specs.declared.instruction.Instruction.{Instruction}
use Rattle.runs.specs.declared.valuations.Valuations.{Valuations}
use Rattle.runs.specs.declared.valuations.Changes.{Changes}
use Rattle.runs.specs.Valuations.{Meets, Has, MayChange, After}
use Rattle.runs.specs.Runs.{Carries, Reaches}
use Rattle.runs.proofs.Carrying.{carries_more}
use Rattle.constraints.specs.Schedules.{May}
use Rattle.flight.specs.declared.issued.Issued.{Issued}
use Rattle.flight.specs.declared.issued.InFlight.{InFlight}
use Rattle.flight.specs.Issues.{live, kept}
use Rattle.flight.proofs.Growing.{carries_before}

-- the condition registers in m are those that may change behind the last packet
abbrev pub Masks : Changes → List (List Instruction) → List Instruction → Type 0
Masks m past xs = (i : ℕ) → i < 6 → MayChange m i ↔ May (past ++ xs ∷ []) (length past) i

-- a write of the packet behind: what can be reached there, under its condition
pub carries_here : (lawful start : Valuations) (may : ℕ → ℕ → Type 0) (n : ℕ) (c : Condition) (reach r : Valuations)
    → ((v : ℕ) → v < 64 → Has r v ↔ (Has reach v × Meets c v)) → Reaches lawful start may n reach → Carries lawful start may n n c r
carries_here lawful start may n c reach r members reached v hv = (
  λ h. let (there, met) = (members v hv).0 h in
      let a = (reached v hv).0 there in
      (a.0, a.1, subst (Meets c) (sym a.3) met, a.3),
  λ a. (members v hv).1 ((reached v hv).1 (a.0, a.1, tt, a.3), subst (Meets c) a.3 a.2),
)

-- a set one packet on
pub carries_on : (lawful start : Valuations) (past : List (List Instruction)) (xs : List Instruction) (j : ℕ) (c : Condition) (set r : Valuations) (m : Changes)
    → j ≤ length past → Masks m past xs → ((w : ℕ) → w < 64 → Has r w ↔ (Has lawful w × After set m w))
    → Carries lawful start (May past) (length past) j c set → Carries lawful start (May (past ++ xs ∷ [])) (length (past ++ xs ∷ [])) j c r
carries_on lawful start past xs j c set r m le masks stepped held =
    subst (λ (n : ℕ). Carries lawful start (May (past ++ xs ∷ [])) n j c r) (sym (length_push past xs))
    (carries_more lawful start (May (past ++ xs ∷ [])) (length past) j c set r m le masks stepped (carries_before past xs lawful start j c set held))

-- one entry more: it goes on, or it is left
abbrev pub issues : List InFlight → List Issued
issues es = map (λ e. e.issued) es

-- what no longer fits is left out, before or after one entry more
pub take_push : {X : Type 0} (n : ℕ) (xs : List X) (x : X) → take n (take n xs ++ x ∷ []) ≡ take n (xs ++ x ∷ [])
take_push n xs x = grind (arith, common_steps)

kept_more : (c : ℕ) (es : List InFlight) (n : ℕ) (d : InFlight) → n < length es → kept c (issues (take (n + 1) es)) ≡ kept c (issues (take n es)) ++ kept c ((get_or es n d).issued ∷ [])
kept_more c es n d h =
    ap (λ l. kept c (issues l)) (take_more es n d h) ∙ ap (kept c) (map-append (λ e. e.issued) (take n es) (get_or es n d ∷ []))
    ∙ filter-append (live c) (issues (take n es)) ((get_or es n d).issued ∷ [])

pub goes_on : (c m : ℕ) (es : List InFlight) (n : ℕ) (d e : InFlight) (list after : List InFlight) → n < length es → live c (get_or es n d).issued ≡ true
    → e.issued ≡ (get_or es n d).issued → after ≡ take m (list ++ e ∷ [])
    → issues list ≡ take m (kept c (issues (take n es))) → issues after ≡ take m (kept c (issues (take (n + 1) es)))
goes_on c m es n d e list after h alive same pushed inv =
    let x = (get_or es n d).issued in
    let one : kept c (x ∷ []) ≡ x ∷ [] = ap (λ (b : Bool). cond b (x ∷ []) []) alive in
    ap issues pushed ∙ sym (Rattle.std.proofs.lemmas.List.take-map (λ (f : InFlight). f.issued) m (list ++ e ∷ []))
    ∙ ap (take m) (map-append (λ (f : InFlight). f.issued) list (e ∷ []) ∙ ap (λ (q : Issued). issues list ++ q ∷ []) same ∙ ap (λ l. l ++ x ∷ []) inv)
    ∙ take_push m (kept c (issues (take n es))) x ∙ ap (take m) (sym (kept_more c es n d h ∙ ap (λ l. kept c (issues (take n es)) ++ l) one))

pub is_left : (c m : ℕ) (es : List InFlight) (n : ℕ) (d : InFlight) (list : List InFlight) → n < length es → live c (get_or es n d).issued ≡ false
    → issues list ≡ take m (kept c (issues (take n es))) → issues list ≡ take m (kept c (issues (take (n + 1) es)))
is_left c m es n d list h dead inv =
    let x = (get_or es n d).issued in
    let none : kept c (x ∷ []) ≡ [] = ap (λ (b : Bool). cond b (x ∷ []) []) dead in
    inv ∙ ap (take m) (sym (kept_more c es n d h ∙ ap (λ l. kept c (issues (take n es)) ++ l) none ∙ append-nil (kept c (issues (take n es)))))

-- what holds of the entries and of one more holds of those that fit
pub all_added : {X : Type 0} (P : X → Type 0) (m : ℕ) (list after : List X) (e : X) → after ≡ take m (list ++ e ∷ []) → All P list → P e → All P after
all_added P m list after e pushed all here = subst (All P) (sym pushed) (All-take P m (list ++ e ∷ []) (All-push P list e all here))
