-- From the first clash among entries to the constraint that a packet breaks, and its places: one argument for every kind. Assumes nothing.
use Rattle.std.proofs.Common.{◌≡◌, ℕ, zero, suc, ◌+◌, ◌-◌, ◌<◌, ◌≤◌, List, [], ◌∷◌, ◌++◌, length, take, Some, sym, refl, ap, ◌∙◌, subst, subst₂, inl, ⊎_elim, arith}
use Rattle.std.proofs.lemmas.List.{length-append, length-map, length-take}
use Rattle.std.proofs.lemmas.Bool.{cases_lt, cases_eq}
use Rattle.std.specs.List.{slice_get}
use Rattle.admission.specs.declared.instruction.Instruction.{Instruction}
use Rattle.runs.specs.declared.valuations.Valuations.{Valuations}
use Rattle.claims.specs.Claims as claims
use Rattle.claims.specs.Claims.{FreeFrom, FirstClash}
use Rattle.constraints.specs.Schedules.{cycles, issue, Stands}
use Rattle.constraints.specs.Constraints.{Clash, ClashAt, Breaks}
use Rattle.constraints.specs.Faults.{Later, FirstWith}
use Rattle.constraints.proofs.Moving.{at_inside, at_get_or, at_one, at_append_left}
use Rattle.constraints.proofs.Reordering.{stands_push_cases, stands_before, stands_last, stands_inside}
use Rattle.flight.specs.declared.issued.Issued.{Issued}
use Rattle.flight.specs.declared.issued.InFlight.{InFlight}
use Rattle.flight.specs.Issues.{issued_at, slots}
use Rattle.flight.proofs.Entries.{at_map, at_mapped, at_right}
use Rattle.flight.proofs.Positions.{slots_at, slots_there}
use Rattle.flight.proofs.Keeping.{EarlierPlace, Ordered, ordered_at, length_slots}
use Rattle.flight.proofs.Stepping.{issues}

-- entries in order: f of packets accepted before, and then those of the packet xs
pub record Lined (past : List (List Instruction)) (xs : List Instruction) (zs : List InFlight) (f : ℕ) : Type 0 where
  pub ahead : List Issued
  pub many : length ahead ≡ f
  pub made : issues zs ≡ ahead ++ slots (length past) (cycles past) 0 xs
  pub old : (a : ℕ) (q : Issued) → slice_get ahead a ≡ Some q → Stands past q.place.packet q.place.slot q.instruction × (q.issue ≡ issue past q.place.packet)
  pub order : Ordered (issues zs)

-- an entry of the packet xs behind past
pub record Behind (past : List (List Instruction)) (xs : List Instruction) (f a : ℕ) (e : InFlight) : Type 0 where
  pub packet : e.issued.place.packet ≡ length past
  pub slot : f + e.issued.place.slot ≡ a
  pub cycle : e.issued.issue ≡ cycles past
  pub stands : slice_get xs e.issued.place.slot ≡ Some e.issued.instruction

module _ (past : List (List Instruction)) (xs : List Instruction) (zs : List InFlight) (f : ℕ) (lined : Lined past xs zs f) where
  pub lined_long : length zs ≡ f + length xs
  lined_long =
      let m = lined.many in
      omega (arith, length-map zs (λ (e : InFlight). e.issued), ap length lined.made, length-append lined.ahead (slots (length past) (cycles past) 0 xs), length_slots (length past) (cycles past) 0 xs)

  made_at : (a : ℕ) (e : InFlight) → slice_get zs a ≡ Some e → slice_get (lined.ahead ++ slots (length past) (cycles past) 0 xs) a ≡ Some e.issued
  made_at a e h = subst (λ (l : List Issued). slice_get l a ≡ Some e.issued) lined.made (at_map (λ (z : InFlight). z.issued) zs a e h)

  pub entry_behind : (a : ℕ) (e : InFlight) → slice_get zs a ≡ Some e → f ≤ a → Behind past xs f a e
  entry_behind a e h le =
      let m = lined.many in
      let n : length lined.ahead + (a - f) ≡ a = omega arith in
      let there = sym (at_right lined.ahead (slots (length past) (cycles past) 0 xs) (a - f)) ∙ ap (slice_get (lined.ahead ++ slots (length past) (cycles past) 0 xs)) n ∙ made_at a e h in
      let (p, s, c, i) = slots_at (length past) (cycles past) 0 xs (a - f) e.issued there in
      let t : a - f ≡ e.issued.place.slot = omega arith in
      record { packet = p; slot = omega arith; cycle = c; stands = subst (λ (k : ℕ). slice_get xs k ≡ Some e.issued.instruction) t i }

  pub entry_old : (a : ℕ) (e : InFlight) → slice_get zs a ≡ Some e → a < f
      → Stands past e.issued.place.packet e.issued.place.slot e.issued.instruction × (e.issued.issue ≡ issue past e.issued.place.packet)
  entry_old a e h lt =
      let m = lined.many in
      lined.old a e.issued (sym (at_append_left lined.ahead (slots (length past) (cycles past) 0 xs) a (omega arith)) ∙ made_at a e h)

  pub entry_of : (t : ℕ) (y : Instruction) → slice_get xs t ≡ Some y → (g : InFlight) × (slice_get zs (f + t) ≡ Some g) × (g.issued ≡ issued_at (length past) (cycles past) t y)
  entry_of t y h =
      let m = lined.many in
      let n : length lined.ahead + t ≡ f + t = omega arith in
      let z : 0 + t ≡ t = omega arith in
      let there : slice_get (issues zs) (f + t) ≡ Some (issued_at (length past) (cycles past) t y) =
      subst (λ (l : List Issued). slice_get l (f + t) ≡ Some (issued_at (length past) (cycles past) t y)) (sym lined.made)
      (sym (ap (slice_get (lined.ahead ++ slots (length past) (cycles past) 0 xs)) n) ∙ at_right lined.ahead (slots (length past) (cycles past) 0 xs) t
      ∙ slots_there (length past) (cycles past) 0 xs t y h ∙ ap (λ (k : ℕ). Some (issued_at (length past) (cycles past) k y)) z) in
      at_mapped (λ (e : InFlight). e.issued) zs (f + t) (issued_at (length past) (cycles past) t y) there

  pub entries_ordered : (a b : ℕ) (e g : InFlight) → slice_get zs a ≡ Some e → slice_get zs b ≡ Some g → a < b → EarlierPlace e.issued g.issued
  entries_ordered a b e g ea eb lt =
      ordered_at (issues zs) a b e.issued g.issued lined.order (at_map (λ (z : InFlight). z.issued) zs a e ea) (at_map (λ (z : InFlight). z.issued) zs b g eb) lt

-- what stands in the first of a list stands in the list
pub at_take : {X : Type 0} (m : ℕ) (xs : List X) (k : ℕ) → k < m → slice_get (take m xs) k ≡ slice_get xs k
at_take zero xs k h = absurd (omega arith)
at_take (suc m) [] k h = refl
at_take (suc m) (x ∷ xs) zero h = refl
at_take (suc m) (x ∷ xs) (suc k) h = at_take m xs k (omega arith)

pub at_taken : {X : Type 0} (m : ℕ) (xs : List X) (k : ℕ) (x : X) → slice_get (take m xs) k ≡ Some x → (k < m) × (slice_get xs k ≡ Some x)
at_taken m xs k x e = let l = length-take m xs in let i = at_inside (take m xs) k x e in let h : k < m = omega arith in (h, sym (at_take m xs k h) ∙ e)

module _ (lawful start : Valuations) (past : List (List Instruction)) (xs : List Instruction) (n : ℕ) where
  -- a clash among the slots up to one is a clash of the packet
  clash_whole : (m k s t : ℕ) → ClashAt lawful start past (take (m + 1) xs) n k s t → ClashAt lawful start past xs n k s t × (t ≤ m) × (k ≡ length past → s ≤ m)
  clash_whole m k s t (x, y, st, at-t, apart, c) =
      let (ht, there) = at_taken (m + 1) xs t y at-t in
      let le : t ≤ m = omega arith in
      ⊎_elim
      (λ old. let lt = stands_inside past k s x old in ((x, y, stands_before past xs k s x old, there, apart, c), le, λ e. absurd (omega arith)))
      (λ (e, at-s). let (hs, here) = at_taken (m + 1) xs s x at-s in
      ((x, y, subst (λ (j : ℕ). Stands (past ++ xs ∷ []) j s x) (sym e) (stands_last past xs s x here), there, apart, c), le, λ _. let w : s ≤ m = omega arith in w))
      (stands_push_cases past (take (m + 1) xs) k s x st)

  clash_part : (m k s t : ℕ) → t ≤ m → (k ≡ length past → s ≤ m) → ClashAt lawful start past xs n k s t → ClashAt lawful start past (take (m + 1) xs) n k s t
  clash_part m k s t ht hs (x, y, st, at-t, apart, c) =
      ⊎_elim
      (λ old. (x, y, stands_before past (take (m + 1) xs) k s x old, at_take (m + 1) xs t (omega arith) ∙ at-t, apart, c))
      (λ (e, at-s). let le = hs e in (
        x,
        y,
        subst (λ (j : ℕ). Stands (past ++ take (m + 1) xs ∷ []) j s x) (sym e) (stands_last past (take (m + 1) xs) s x (at_take (m + 1) xs s (omega arith) ∙ at-s)),
        at_take (m + 1) xs t (omega arith) ∙ at-t,
        apart,
        c,
      )) (stands_push_cases past xs k s x st)

module _ (lawful start : Valuations) (past : List (List Instruction)) (xs : List Instruction) (n : ℕ) (paired : (n ≡ 16 → ⊥) × (n ≡ 17 → ⊥)) where
  -- a constraint that is no count is broken by two instructions
  by_two : (ys : List Instruction) → Breaks lawful start past ys n → (k s t : ℕ) × ClashAt lawful start past ys n k s t
  by_two ys b = ⊎_elim (λ c. c) (⊎_elim (λ (e, _). absurd (paired.0 e)) (λ (e, _). absurd (paired.1 e))) b

-- a kind of claim says what constraint n says of two entries, the later one of the packet; all that can clash with the packet are among the entries
pub record Says (lawful start : Valuations) (past : List (List Instruction)) (xs : List Instruction) (zs : List InFlight) (f n : ℕ) (Meet : InFlight → InFlight → Type 0) : Type 0 where
  pub sound : (a b : ℕ) (e g : InFlight) → slice_get zs a ≡ Some e → slice_get zs b ≡ Some g → f ≤ b → Meet e g → Clash lawful start past n e.issued.place.packet e.issued.instruction g.issued.instruction
  pub complete : (a b : ℕ) (e g : InFlight) → slice_get zs a ≡ Some e → slice_get zs b ≡ Some g → f ≤ b → Clash lawful start past n e.issued.place.packet e.issued.instruction g.issued.instruction → Meet e g
  pub swaps : (e g : InFlight) → Meet e g → Meet g e
  pub reaches : (k s t : ℕ) (x y : Instruction) → Stands past k s x → slice_get xs t ≡ Some y → Clash lawful start past n k x y
      → (a : ℕ) × (e : InFlight) × (a < f) × (slice_get zs a ≡ Some e) × (e.issued.place.packet ≡ k) × (e.issued.place.slot ≡ s) × (e.issued.instruction ≡ x)

module _ (lawful start : Valuations) (past : List (List Instruction)) (xs : List Instruction) (zs : List InFlight) (f : ℕ) (lined : Lined past xs zs f) (n : ℕ)
    (paired : (n ≡ 16 → ⊥) × (n ≡ 17 → ⊥)) (Meet : InFlight → InFlight → Type 0) (says : Says lawful start past xs zs f n Meet) where
  -- the claims at two places
  meet_at : (a b : ℕ) (e g : InFlight) → slice_get zs a ≡ Some e → slice_get zs b ≡ Some g → Meet e g → claims.ClashAt Meet zs a b
  meet_at a b e g ea eb m d = subst₂ Meet (sym (at_get_or zs a e d ea)) (sym (at_get_or zs b g d eb)) m

  at_meet : (a b : ℕ) (e g : InFlight) → slice_get zs a ≡ Some e → slice_get zs b ≡ Some g → claims.ClashAt Meet zs a b → Meet e g
  at_meet a b e g ea eb m = subst₂ Meet (at_get_or zs a e e ea) (at_get_or zs b g e eb) (m e)

  -- two entries that meet, as a clash of the packet
  clash_of : (a b : ℕ) (e g : InFlight) → slice_get zs a ≡ Some e → slice_get zs b ≡ Some g → a < b → f ≤ b → Meet e g
      → ClashAt lawful start past xs n e.issued.place.packet e.issued.place.slot g.issued.place.slot
  clash_of a b e g ea eb lt le m =
      let bg = entry_behind past xs zs f lined b g eb le in
      let gp = bg.packet in (
        e.issued.instruction,
        g.issued.instruction,
        ⊎_elim
            (λ before. stands_before past xs e.issued.place.packet e.issued.place.slot e.issued.instruction (entry_old past xs zs f lined a e ea before).0)
            (λ behind. let be = entry_behind past xs zs f lined a e ea behind in
            subst (λ (j : ℕ). Stands (past ++ xs ∷ []) j e.issued.place.slot e.issued.instruction) (sym be.packet) (stands_last past xs e.issued.place.slot e.issued.instruction be.stands))
            (cases_lt a f),
        bg.stands,
        λ same slot. ⊎_elim (λ p. omega arith) (λ (p, s). omega arith) (entries_ordered past xs zs f lined a b e g ea eb lt),
        says.sound a b e g ea eb le m,
      )

  -- a clash of the packet, as two entries that meet; the later of them stands in slot m at most
  pub record Meeting (m k s t : ℕ) : Type 0 where
    pub a : ℕ
    pub b : ℕ
    pub ordered : a < b
    pub low : f ≤ b
    pub high : b ≤ f + m
    pub meets : claims.ClashAt Meet zs a b

  meeting_of : (m k s t : ℕ) → t ≤ m → (k ≡ length past → s ≤ m) → ClashAt lawful start past xs n k s t → Meeting m k s t
  meeting_of m k s t ht hs (x, y, st, at-t, apart, c) =
      let (g, at_g, is-g) = entry_of past xs zs f lined t y at-t in
      let gi = ap (λ (q : Issued). q.instruction) is-g in
      ⊎_elim
      (λ old. let (a, e, lt, at-e, ep, es, ei) = says.reaches k s t x y old at-t c in
      let c' : Clash lawful start past n e.issued.place.packet e.issued.instruction g.issued.instruction =
      subst (λ (i : Instruction). Clash lawful start past n e.issued.place.packet e.issued.instruction i) (sym gi)
      (subst (λ (i : Instruction). Clash lawful start past n e.issued.place.packet i y) (sym ei) (subst (λ (j : ℕ). Clash lawful start past n j x y) (sym ep) c)) in
      record { a = a; b = f + t; ordered = omega arith; low = omega arith; high = omega arith; meets = meet_at a (f + t) e g at-e at_g (says.complete a (f + t) e g at-e at_g (omega arith) c') })
      (λ (here, at-s). let (e, at-e, is-e) = entry_of past xs zs f lined s x at-s in
      let ep : e.issued.place.packet ≡ k = ap (λ (q : Issued). q.place.packet) is-e ∙ sym here in
      let ei = ap (λ (q : Issued). q.instruction) is-e in
      let le = hs here in
      let c' : Clash lawful start past n e.issued.place.packet e.issued.instruction g.issued.instruction =
      subst (λ (i : Instruction). Clash lawful start past n e.issued.place.packet e.issued.instruction i) (sym gi)
      (subst (λ (i : Instruction). Clash lawful start past n e.issued.place.packet i y) (sym ei) (subst (λ (j : ℕ). Clash lawful start past n j x y) (sym ep) c)) in
      let met = says.complete (f + s) (f + t) e g at-e at_g (omega arith) c' in
      ⊎_elim
      (λ lt. record { a = f + s; b = f + t; ordered = omega arith; low = omega arith; high = omega arith; meets = meet_at (f + s) (f + t) e g at-e at_g met })
      (λ ge. ⊎_elim (λ same. absurd (apart here same))
      (λ differ. record { a = f + t; b = f + s; ordered = omega arith; low = omega arith; high = omega arith; meets = meet_at (f + t) (f + s) g e at_g at-e (says.swaps e g met) })
      (cases_eq s t)) (cases_lt s t)) (stands_push_cases past xs k s x st)

  -- nothing meets: the constraint is kept
  pub kept_from : FreeFrom Meet zs f (length zs) → Breaks lawful start past xs n → ⊥
  kept_from free b =
      let (k, s, t, c) = by_two lawful start past xs n paired xs b in
      let (x, y, st, at-t, apart, _) = c in
      let ht = at_inside xs t y at-t in
      let hs : k ≡ length past → s ≤ length xs - 1 = λ e. ⊎_elim (λ old. let lt = stands_inside past k s x old in absurd (omega arith)) (λ (_, at-s). let i = at_inside xs s x at-s in omega arith) (stands_push_cases past xs k s x st) in
      let m = meeting_of (length xs - 1) k s t (omega arith) hs c in
      let long = lined_long past xs zs f lined in
      let h = m.high in
      free m.b m.low (omega arith) m.a m.ordered m.meets

  -- the first clash: the constraint is broken, and these are its places
  module _ (a b : ℕ) (e g : InFlight) (ea : slice_get zs a ≡ Some e) (eb : slice_get zs b ≡ Some g) (first : FirstClash Meet zs f a b) where
    here : ClashAt lawful start past xs n e.issued.place.packet e.issued.place.slot g.issued.place.slot
    here = clash_of a b e g ea eb first.ordered first.reached (at_meet a b e g ea eb first.clashing)

    place_of : Behind past xs f b g
    place_of = entry_behind past xs zs f lined b g eb first.reached

    pub found_packet : g.issued.place.packet ≡ length past
    found_packet = place_of.packet

    pub found_broken : Breaks lawful start past xs n
    found_broken = inl (e.issued.place.packet, e.issued.place.slot, g.issued.place.slot, here)

    pub found_later : Later lawful start past xs n g.issued.place.slot
    found_later =
        let slot = place_of.slot in
        let gp = place_of.packet in (
          at_inside xs g.issued.place.slot g.issued.instruction place_of.stands,
          (
            inl (
              e.issued.place.packet,
              e.issued.place.slot,
              g.issued.place.slot,
              clash_part lawful start past xs n g.issued.place.slot e.issued.place.packet e.issued.place.slot g.issued.place.slot (omega arith)
                  (λ same. ⊎_elim (λ p. omega arith) (λ (p, s). omega arith) (entries_ordered past xs zs f lined a b e g ea eb first.ordered)) here,
            ),
            λ m lt broken. let (k, s, t, c) = by_two lawful start past xs n paired (take (m + 1) xs) broken in
                let (whole, ht, hs) = clash_whole lawful start past xs n m k s t c in
                let w = meeting_of m k s t ht hs whole in
                let h = w.high in
                first.least w.b w.low (omega arith) w.a w.ordered w.meets,
          ),
        )

    pub found_earlier : FirstWith lawful start past xs n g.issued.place.slot e.issued.place.packet e.issued.place.slot
    found_earlier = (
      here,
      λ l r before (x, y, st, at-t, apart, c).
          let gi : g.issued.instruction ≡ y = at_one xs g.issued.place.slot g.issued.instruction y place_of.stands at-t in
          let order = first.ordered in
          let ordered-e : (j : ℕ) (d : InFlight) → slice_get zs j ≡ Some d → d.issued.place.packet ≡ l → d.issued.place.slot ≡ r → j < a =
          λ j d at-d p s. ⊎_elim (λ lt. lt) (λ ge. absurd (⊎_elim (λ same. let z : e ≡ d = at_one zs a e d ea (subst (λ (i : ℕ). slice_get zs i ≡ Some d) same at-d) in
          let zp = ap (λ (q : InFlight). q.issued.place.packet) z in
          let zs = ap (λ (q : InFlight). q.issued.place.slot) z in
          ⊎_elim (λ u. omega arith) (λ (u, v). omega arith) before)
          (λ differ. ⊎_elim (λ u. ⊎_elim (λ p'. omega arith) (λ (p', s'). omega arith) before) (λ (u, v). ⊎_elim (λ p'. omega arith) (λ (p', s'). omega arith) before)
          (entries_ordered past xs zs f lined a j e d ea at-d (omega arith)))
          (cases_eq j a))) (cases_lt j a) in
          let refute : (j : ℕ) (d : InFlight) → slice_get zs j ≡ Some d → d.issued.place.packet ≡ l → d.issued.place.slot ≡ r → d.issued.instruction ≡ x → ⊥ =
          λ j d at-d p s i. let lt = ordered-e j d at-d p s in
          let c' : Clash lawful start past n d.issued.place.packet d.issued.instruction g.issued.instruction =
          subst (λ (v : Instruction). Clash lawful start past n d.issued.place.packet d.issued.instruction v) (sym gi)
          (subst (λ (v : Instruction). Clash lawful start past n d.issued.place.packet v y) (sym i) (subst (λ (w : ℕ). Clash lawful start past n w x y) (sym p) c)) in
          first.first j lt (meet_at j b d g at-d eb (says.complete j b d g at-d eb first.reached c')) in
          ⊎_elim
          (λ old. let (j, d, lt, at-d, p, s, i) = says.reaches l r g.issued.place.slot x y old at-t c in refute j d at-d p s i)
          (λ (last, at-r). let (d, at-d, is-d) = entry_of past xs zs f lined r x at-r in
          refute (f + r) d at-d (ap (λ (q : Issued). q.place.packet) is-d ∙ sym last) (ap (λ (q : Issued). q.place.slot) is-d) (ap (λ (q : Issued). q.instruction) is-d))
          (stands_push_cases past xs l r x st),
    )
