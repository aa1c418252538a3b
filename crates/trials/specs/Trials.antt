-- The worked trials of the rules: schedules, and what is answered to each of their records.
-- After each schedule the totals are asked for.
use Rattle.std.specs.Prelude.{[], ◌∷◌}
use Rattle.isa.specs.declared.refusal.Refusal.TheVariants.{UnitTwice, CrossPathOperands, CrossPathCount, ReadCount, WritePort, DoubleWrite}
use Rattle.trials.specs.Notation.{L1, S1, M1, D1, L2, S2, M2, D2, a, b, absent, ADD, SUB, MPY, SMPY2, DOTP2, AVG2, MV, SHR, LDW, NOP, crossing, updating, when, nonzero_b0, zero_b0, zero_b1, nonzero_a1, waiting, accepted, stalled, place, refused, totals, every, Answers}

-- what the trials show
pub record Trials : Type 0 where
  -- one unit twice
  pub unit_twice : Answers every
      ((ADD S1 (a 0) (a 1) (a 2) ∷ SHR S1 (a 3) absent (a 4) ∷ []) ∷ [])
      (waiting 1 ∷ refused UnitTwice (place 0 1) (place 0 0) ∷ totals 0 0 0 ∷ [])
  pub units_apart : Answers every
      ((ADD L1 (a 0) (a 1) (a 2) ∷ SHR S1 (a 3) absent (a 4) ∷ []) ∷ [])
      (waiting 1 ∷ accepted 0 1 ∷ totals 1 1 0 ∷ [])
  -- write ports: a two cycle and a four cycle result of one register share a cycle, a pair does not
  pub port_shared : Answers every
      ((DOTP2 M1 (a 0) (a 1) (a 2) ∷ []) ∷ (NOP 1 ∷ []) ∷ (AVG2 M1 (a 4) (a 4) (a 5) ∷ []) ∷ [])
      (accepted 0 1 ∷ accepted 1 1 ∷ accepted 2 1 ∷ totals 3 3 0 ∷ [])
  pub port_taken : Answers every
      ((SMPY2 M1 (a 5) (a 6) (a 8) ∷ []) ∷ (NOP 1 ∷ []) ∷ (MPY M1 (a 1) (a 2) (a 3) ∷ []) ∷ [])
      (accepted 0 1 ∷ accepted 1 1 ∷ refused WritePort (place 2 0) (place 0 0) ∷ totals 2 2 0 ∷ [])
  -- cross paths: two operands on one path, and three uses of it
  pub operands_differ : Answers every
      ((crossing (MV S1 (b 0) (a 0)) ∷ crossing (MV L1 (b 1) (a 1)) ∷ []) ∷ [])
      (waiting 1 ∷ refused CrossPathOperands (place 0 1) (place 0 0) ∷ totals 0 0 0 ∷ [])
  pub path_crowded : Answers every
      ((crossing (MV L2 (a 0) (b 0)) ∷ crossing (MV S2 (a 0) (b 1)) ∷ crossing (MV D2 (a 0) (b 2)) ∷ []) ∷ [])
      (waiting 1 ∷ waiting 2 ∷ refused CrossPathCount (place 0 2) (place 0 2) ∷ totals 0 0 0 ∷ [])
  -- a register that was just written comes over the cross path: a stall, but not after load data
  pub stall_after_write : Answers every
      ((ADD S1 (a 0) (a 0) (a 1) ∷ []) ∷ (crossing (ADD S2 (b 0) (a 1) (b 1)) ∷ []) ∷ [])
      (accepted 0 1 ∷ stalled 1 1 ∷ totals 2 2 1 ∷ [])
  pub no_stall_after_load : Answers every
      ((updating (LDW D1 (a 0) (a 1)) ∷ []) ∷ (NOP 4 ∷ []) ∷ (crossing (ADD S2 (b 0) (a 1) (b 1)) ∷ []) ∷ [])
      (accepted 0 1 ∷ accepted 1 4 ∷ accepted 5 1 ∷ totals 3 6 0 ∷ [])
  -- a register is read too often; its test by a condition is no read
  pub register_crowded : Answers every
      ((MPY M1 (a 1) (a 1) (a 4) ∷ ADD L1 (a 1) (a 1) (a 5) ∷ SUB D1 (a 1) (a 2) (a 3) ∷ []) ∷ [])
      (waiting 1 ∷ waiting 2 ∷ refused ReadCount (place 0 2) (place 0 2) ∷ totals 0 0 0 ∷ [])
  pub condition_no_read : Answers every
      ((MPY M1 (a 1) (a 1) (a 4) ∷ when nonzero_a1 (ADD L1 (a 0) (a 1) (a 5)) ∷ SUB D1 (a 1) (a 2) (a 3) ∷ []) ∷ [])
      (waiting 1 ∷ waiting 2 ∷ accepted 0 1 ∷ totals 1 1 0 ∷ [])
  -- two writes of one register clash where they land together, not where they issue together
  pub landing_together : Answers every
      ((MPY M1 (a 0) (a 1) (a 2) ∷ []) ∷ (ADD L1 (a 4) (a 5) (a 2) ∷ []) ∷ [])
      (accepted 0 1 ∷ refused DoubleWrite (place 1 0) (place 0 0) ∷ totals 1 1 0 ∷ [])
  pub landing_apart : Answers every
      ((MPY M1 (a 0) (a 1) (a 2) ∷ ADD L1 (a 4) (a 5) (a 2) ∷ []) ∷ [])
      (waiting 1 ∷ accepted 0 1 ∷ totals 1 1 0 ∷ [])
  -- conditions in one packet: they may hold together, unless no such valuation is lawful; opposite ones never do
  pub conditions_meet : Answers every
      ((when zero_b1 (ADD L2 (b 5) (b 6) (b 7)) ∷ when nonzero_b0 (SUB S2 (b 8) (b 9) (b 7)) ∷ []) ∷ [])
      (waiting 1 ∷ refused DoubleWrite (place 0 1) (place 0 0) ∷ totals 0 0 0 ∷ [])
  pub conditions_parted : Answers (record { bits = 0xdddd_dddd_dddd_dddd })
      ((when zero_b1 (ADD L2 (b 5) (b 6) (b 7)) ∷ when nonzero_b0 (SUB S2 (b 8) (b 9) (b 7)) ∷ []) ∷ [])
      (waiting 1 ∷ accepted 0 1 ∷ totals 1 1 0 ∷ [])
  pub conditions_opposite : Answers every
      ((when zero_b0 (ADD L2 (b 5) (b 6) (b 7)) ∷ when nonzero_b0 (SUB S2 (b 8) (b 9) (b 7)) ∷ []) ∷ [])
      (waiting 1 ∷ accepted 0 1 ∷ totals 1 1 0 ∷ [])
  -- opposite conditions in two packets exclude each other only while the register is not written between them
  pub condition_kept : Answers every
      ((when nonzero_b0 (MPY M2 (b 3) (b 4) (b 2)) ∷ []) ∷ (when zero_b0 (ADD L2 (b 5) (b 6) (b 2)) ∷ []) ∷ [])
      (accepted 0 1 ∷ accepted 1 1 ∷ totals 2 2 0 ∷ [])
  pub condition_changed : Answers every
      ((when nonzero_b0 (MPY M2 (b 3) (b 4) (b 2)) ∷ ADD D2 (b 8) (b 9) (b 0) ∷ []) ∷ (when zero_b0 (ADD L2 (b 5) (b 6) (b 2)) ∷ []) ∷ [])
      (waiting 1 ∷ accepted 0 1 ∷ refused DoubleWrite (place 1 0) (place 0 0) ∷ totals 1 1 0 ∷ [])
