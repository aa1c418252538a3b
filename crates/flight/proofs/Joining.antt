-- The entries in flight and then those of a packet. Assumes nothing.
use Rattle.std.proofs.Common.{◌≡◌, ℕ, suc, ◌+◌, ◌<◌, ◌≤◌, List, [], ◌∷◌, ◌++◌, length, get_or, take, sym, ap, ◌∙◌, ap₂, arith}
use Rattle.std.proofs.lemmas.List.Elements.{filter-append}
use Rattle.std.proofs.lemmas.List.{length-take-le, length-append, length-map, length_push, take_all, take_more, map-append, append_assoc, append-nil}
use Rattle.admission.specs.declared.instruction.Instruction.{Instruction}
use Rattle.constraints.specs.Schedules.{cycles}
use Rattle.flight.specs.declared.issued.Issued.{Issued}
use Rattle.flight.specs.declared.issued.InFlight.{InFlight}
use Rattle.flight.specs.Issues.{issued_at, slots, positions, live, kept}
use Rattle.flight.specs.Kept.{FlightOf}
use Rattle.flight.proofs.Positions.{positions_push}
use Rattle.flight.proofs.Keeping.{kept_slots, length_slots}
use Rattle.flight.proofs.Stepping.{issues}

slots_push : (k c s : ℕ) (xs : List Instruction) (x : Instruction) → slots k c s (xs ++ x ∷ []) ≡ slots k c s xs ++ issued_at k c (s + length xs) x ∷ []
slots_push k c s [] x = let e : s ≡ s + 0 = omega arith in ap (λ (t : ℕ). issued_at k c t x ∷ []) e
slots_push k c s (y ∷ xs) x =
    let e : s + 1 + length xs ≡ s + suc (length xs) = omega arith in
    ap (λ l. issued_at k c s y ∷ l) (slots_push k c (s + 1) xs x ∙ ap (λ (t : ℕ). slots k c (s + 1) xs ++ issued_at k c t x ∷ []) e)

module _ (k c : ℕ) (xs : List Instruction) (es : List InFlight) where
  -- the entries es, and behind them those of the first n instructions
  abbrev pub Added : ℕ → List InFlight → Type 0
  Added n list = issues list ≡ issues es ++ slots k c 0 (take n xs)

  pub length_added : (n : ℕ) (list : List InFlight) → n ≤ length xs → Added n list → length list ≡ length es + n
  length_added n list le e =
      omega (
        arith,
        ap length e,
        length-map list (λ (f : InFlight). f.issued),
        length-map es (λ (f : InFlight). f.issued),
        length-append (issues es) (slots k c 0 (take n xs)),
        length_slots k c 0 (take n xs),
        length-take-le n xs le,
      )

  -- nothing added yet
  pub added_none : (list : List InFlight) → length es ≤ 40 → list ≡ take 48 es → Added 0 list
  added_none list few e = ap issues (e ∙ take_all 48 es (omega arith)) ∙ sym (append-nil (issues es))

  -- the entry of one instruction more
  pub added_more : (n : ℕ) (d : Instruction) (e : InFlight) (list after : List InFlight) → length es ≤ 40 → length xs ≤ 8 → n < length xs
      → e.issued ≡ issued_at k c n (get_or xs n d) → after ≡ take 48 (list ++ e ∷ []) → Added n list → Added (n + 1) after
  added_more n d e list after few short h same pushed inv =
      let x = get_or xs n d in
      let q = issued_at k c n x in
      let at_n : 0 + length (take n xs) ≡ n = omega (arith, length-take-le n xs (omega arith)) in
      let room : length (list ++ e ∷ []) ≤ 48 = omega (arith, length_push list e, length_added n list (omega arith) inv) in
      ap issues (pushed ∙ take_all 48 (list ++ e ∷ []) room) ∙ map-append (λ (f : InFlight). f.issued) list (e ∷ []) ∙ ap (λ (r : Issued). issues list ++ r ∷ []) same ∙ ap (λ l. l ++ q ∷ []) inv
      ∙ append_assoc (issues es) (slots k c 0 (take n xs)) (q ∷ [])
      ∙ ap (λ l. issues es ++ l) (ap (λ (t : ℕ). slots k c 0 (take n xs) ++ issued_at k c t x ∷ []) (sym at_n) ∙ sym (slots_push k c 0 (take n xs) x) ∙ ap (slots k c 0) (sym (take_more xs n d h)))

-- the flight of a schedule with a packet behind it, as the packet issues
pub flight_behind : (past : List (List Instruction)) (xs : List Instruction)
    → kept (cycles past) (positions 0 0 (past ++ xs ∷ [])) ≡ kept (cycles past) (positions 0 0 past) ++ slots (length past) (cycles past) 0 xs
flight_behind past xs =
    let k : 0 + length past ≡ length past = omega arith in
    let c : 0 + cycles past ≡ cycles past = omega arith in
    ap (kept (cycles past)) (positions_push 0 0 past xs ∙ ap₂ (λ (m n : ℕ). positions 0 0 past ++ slots m n 0 xs) k c)
    ∙ filter-append (live (cycles past)) (positions 0 0 past) (slots (length past) (cycles past) 0 xs)
    ∙ ap (λ l. kept (cycles past) (positions 0 0 past) ++ l) (kept_slots (length past) (cycles past) 0 xs)

-- they are the flight behind the packets
pub joined_flight : (past : List (List Instruction)) (xs : List Instruction) (k c : ℕ) (es list : List InFlight) → k ≡ length past → c ≡ cycles past
    → FlightOf past (cycles past) es → issues list ≡ issues es ++ slots k c 0 xs → FlightOf (past ++ xs ∷ []) (cycles past) list
joined_flight past xs k c es list ek ec flight told = told ∙ ap₂ (λ l r. l ++ r) flight (ap₂ (λ (m n : ℕ). slots m n 0 xs) ek ec) ∙ sym (flight_behind past xs)
