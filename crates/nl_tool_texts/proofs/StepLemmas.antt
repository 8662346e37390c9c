-- The lines of the axis: each step is round, and there are few of them.
use Rattle.std.proofs.Common.{ℕ, ◌*◌, ◌/◌, ◌<◌, ◌≤◌, ◌^◌, Bool, true, false, cond, List, [], ◌∷◌, inl, inr, refl, arith}
use Rattle.std.specs.Prelude.{nat_le}
use Rattle.std.specs.List.{All}
use Rattle.std.proofs.Math.Nat.{div-le_of_le-mul}
use Rattle.std.proofs.lemmas.Bool.Decides.{leb_tells}
use Rattle.std.proofs.lemmas.List.Elements.{All-cons, All-head, All-nil, All-tail}
use Rattle.nl_tool_texts.specs.Steps.{IsRound, IsStep, step_in, step_of, steps}

-- each of them
all_round : All IsRound steps
all_round =
    All-cons IsRound 1 (2 ∷ 5 ∷ 10 ∷ 20 ∷ 50 ∷ 100 ∷ 200 ∷ 500 ∷ 1000 ∷ 2000 ∷ 5000 ∷ 10000 ∷ 15000 ∷ 30000 ∷ 60000 ∷ 120000 ∷ 300000 ∷ 900000 ∷ 1800000 ∷ 3600000 ∷ 7200000 ∷ 18000000 ∷ 36000000 ∷ 72000000 ∷ 180000000 ∷ []) (inl (record { digit = 1; zeros = 0; is = refl; low = inl refl }))
    (All-cons IsRound 2 (5 ∷ 10 ∷ 20 ∷ 50 ∷ 100 ∷ 200 ∷ 500 ∷ 1000 ∷ 2000 ∷ 5000 ∷ 10000 ∷ 15000 ∷ 30000 ∷ 60000 ∷ 120000 ∷ 300000 ∷ 900000 ∷ 1800000 ∷ 3600000 ∷ 7200000 ∷ 18000000 ∷ 36000000 ∷ 72000000 ∷ 180000000 ∷ []) (inl (record { digit = 2; zeros = 0; is = refl; low = inr (inl refl) }))
    (All-cons IsRound 5 (10 ∷ 20 ∷ 50 ∷ 100 ∷ 200 ∷ 500 ∷ 1000 ∷ 2000 ∷ 5000 ∷ 10000 ∷ 15000 ∷ 30000 ∷ 60000 ∷ 120000 ∷ 300000 ∷ 900000 ∷ 1800000 ∷ 3600000 ∷ 7200000 ∷ 18000000 ∷ 36000000 ∷ 72000000 ∷ 180000000 ∷ []) (inl (record { digit = 5; zeros = 0; is = refl; low = inr (inr refl) }))
    (All-cons IsRound 10 (20 ∷ 50 ∷ 100 ∷ 200 ∷ 500 ∷ 1000 ∷ 2000 ∷ 5000 ∷ 10000 ∷ 15000 ∷ 30000 ∷ 60000 ∷ 120000 ∷ 300000 ∷ 900000 ∷ 1800000 ∷ 3600000 ∷ 7200000 ∷ 18000000 ∷ 36000000 ∷ 72000000 ∷ 180000000 ∷ []) (inl (record { digit = 1; zeros = 1; is = refl; low = inl refl }))
    (All-cons IsRound 20 (50 ∷ 100 ∷ 200 ∷ 500 ∷ 1000 ∷ 2000 ∷ 5000 ∷ 10000 ∷ 15000 ∷ 30000 ∷ 60000 ∷ 120000 ∷ 300000 ∷ 900000 ∷ 1800000 ∷ 3600000 ∷ 7200000 ∷ 18000000 ∷ 36000000 ∷ 72000000 ∷ 180000000 ∷ []) (inl (record { digit = 2; zeros = 1; is = refl; low = inr (inl refl) }))
    (All-cons IsRound 50 (100 ∷ 200 ∷ 500 ∷ 1000 ∷ 2000 ∷ 5000 ∷ 10000 ∷ 15000 ∷ 30000 ∷ 60000 ∷ 120000 ∷ 300000 ∷ 900000 ∷ 1800000 ∷ 3600000 ∷ 7200000 ∷ 18000000 ∷ 36000000 ∷ 72000000 ∷ 180000000 ∷ []) (inl (record { digit = 5; zeros = 1; is = refl; low = inr (inr refl) }))
    (All-cons IsRound 100 (200 ∷ 500 ∷ 1000 ∷ 2000 ∷ 5000 ∷ 10000 ∷ 15000 ∷ 30000 ∷ 60000 ∷ 120000 ∷ 300000 ∷ 900000 ∷ 1800000 ∷ 3600000 ∷ 7200000 ∷ 18000000 ∷ 36000000 ∷ 72000000 ∷ 180000000 ∷ []) (inl (record { digit = 1; zeros = 2; is = refl; low = inl refl }))
    (All-cons IsRound 200 (500 ∷ 1000 ∷ 2000 ∷ 5000 ∷ 10000 ∷ 15000 ∷ 30000 ∷ 60000 ∷ 120000 ∷ 300000 ∷ 900000 ∷ 1800000 ∷ 3600000 ∷ 7200000 ∷ 18000000 ∷ 36000000 ∷ 72000000 ∷ 180000000 ∷ []) (inl (record { digit = 2; zeros = 2; is = refl; low = inr (inl refl) }))
    (All-cons IsRound 500 (1000 ∷ 2000 ∷ 5000 ∷ 10000 ∷ 15000 ∷ 30000 ∷ 60000 ∷ 120000 ∷ 300000 ∷ 900000 ∷ 1800000 ∷ 3600000 ∷ 7200000 ∷ 18000000 ∷ 36000000 ∷ 72000000 ∷ 180000000 ∷ []) (inl (record { digit = 5; zeros = 2; is = refl; low = inr (inr refl) }))
    (All-cons IsRound 1000 (2000 ∷ 5000 ∷ 10000 ∷ 15000 ∷ 30000 ∷ 60000 ∷ 120000 ∷ 300000 ∷ 900000 ∷ 1800000 ∷ 3600000 ∷ 7200000 ∷ 18000000 ∷ 36000000 ∷ 72000000 ∷ 180000000 ∷ []) (inl (record { digit = 1; zeros = 3; is = refl; low = inl refl }))
    (All-cons IsRound 2000 (5000 ∷ 10000 ∷ 15000 ∷ 30000 ∷ 60000 ∷ 120000 ∷ 300000 ∷ 900000 ∷ 1800000 ∷ 3600000 ∷ 7200000 ∷ 18000000 ∷ 36000000 ∷ 72000000 ∷ 180000000 ∷ []) (inl (record { digit = 2; zeros = 3; is = refl; low = inr (inl refl) }))
    (All-cons IsRound 5000 (10000 ∷ 15000 ∷ 30000 ∷ 60000 ∷ 120000 ∷ 300000 ∷ 900000 ∷ 1800000 ∷ 3600000 ∷ 7200000 ∷ 18000000 ∷ 36000000 ∷ 72000000 ∷ 180000000 ∷ []) (inl (record { digit = 5; zeros = 3; is = refl; low = inr (inr refl) }))
    (All-cons IsRound 10000 (15000 ∷ 30000 ∷ 60000 ∷ 120000 ∷ 300000 ∷ 900000 ∷ 1800000 ∷ 3600000 ∷ 7200000 ∷ 18000000 ∷ 36000000 ∷ 72000000 ∷ 180000000 ∷ []) (inl (record { digit = 1; zeros = 4; is = refl; low = inl refl }))
    (All-cons IsRound 15000 (30000 ∷ 60000 ∷ 120000 ∷ 300000 ∷ 900000 ∷ 1800000 ∷ 3600000 ∷ 7200000 ∷ 18000000 ∷ 36000000 ∷ 72000000 ∷ 180000000 ∷ []) (inr (inr (inl refl)))
    (All-cons IsRound 30000 (60000 ∷ 120000 ∷ 300000 ∷ 900000 ∷ 1800000 ∷ 3600000 ∷ 7200000 ∷ 18000000 ∷ 36000000 ∷ 72000000 ∷ 180000000 ∷ []) (inr (inr (inr (inl refl))))
    (All-cons IsRound 60000 (120000 ∷ 300000 ∷ 900000 ∷ 1800000 ∷ 3600000 ∷ 7200000 ∷ 18000000 ∷ 36000000 ∷ 72000000 ∷ 180000000 ∷ []) (inr (inr (inr (inr (inl refl)))))
    (All-cons IsRound 120000 (300000 ∷ 900000 ∷ 1800000 ∷ 3600000 ∷ 7200000 ∷ 18000000 ∷ 36000000 ∷ 72000000 ∷ 180000000 ∷ []) (inr (inr (inr (inr (inr (inl refl))))))
    (All-cons IsRound 300000 (900000 ∷ 1800000 ∷ 3600000 ∷ 7200000 ∷ 18000000 ∷ 36000000 ∷ 72000000 ∷ 180000000 ∷ []) (inr (inr (inr (inr (inr (inr (inl refl)))))))
    (All-cons IsRound 900000 (1800000 ∷ 3600000 ∷ 7200000 ∷ 18000000 ∷ 36000000 ∷ 72000000 ∷ 180000000 ∷ []) (inr (inr (inr (inr (inr (inr (inr (inl refl))))))))
    (All-cons IsRound 1800000 (3600000 ∷ 7200000 ∷ 18000000 ∷ 36000000 ∷ 72000000 ∷ 180000000 ∷ []) (inr (inr (inr (inr (inr (inr (inr (inr (refl)))))))))
    (All-cons IsRound 3600000 (7200000 ∷ 18000000 ∷ 36000000 ∷ 72000000 ∷ 180000000 ∷ []) (inr (inl (record { digit = 1; zeros = 0; is = refl; low = inl refl })))
    (All-cons IsRound 7200000 (18000000 ∷ 36000000 ∷ 72000000 ∷ 180000000 ∷ []) (inr (inl (record { digit = 2; zeros = 0; is = refl; low = inr (inl refl) })))
    (All-cons IsRound 18000000 (36000000 ∷ 72000000 ∷ 180000000 ∷ []) (inr (inl (record { digit = 5; zeros = 0; is = refl; low = inr (inr refl) })))
    (All-cons IsRound 36000000 (72000000 ∷ 180000000 ∷ []) (inr (inl (record { digit = 1; zeros = 1; is = refl; low = inl refl })))
    (All-cons IsRound 72000000 (180000000 ∷ []) (inr (inl (record { digit = 2; zeros = 1; is = refl; low = inr (inl refl) })))
    (All-cons IsRound 180000000 ([]) (inr (inl (record { digit = 5; zeros = 1; is = refl; low = inr (inr refl) })))
    (All-nil IsRound))))))))))))))))))))))))))

round_in : (wall : ℕ) (ss : List ℕ) → All IsRound ss → IsRound (step_in wall ss)
round_in wall [] all = inr (inl (record { digit = 1; zeros = 2; is = refl; low = inl refl }))
round_in wall (s ∷ ss) all = here (nat_le wall (s * 12)) (All-head IsRound s ss all) (round_in wall ss (All-tail IsRound s ss all))
  where
    here : (t : Bool) → IsRound s → IsRound (step_in wall ss) → IsRound (cond t s (step_in wall ss))
    here true own rest = own
    here false own rest = rest

pub step_round : (wall : ℕ) → IsRound (step_of wall)
step_round wall = round_in wall steps all_round

few_in : (wall : ℕ) (ss : List ℕ) → wall < 2 ^ 32 → wall / step_in wall ss ≤ 12
few_in wall [] early = div-le_of_le-mul 360000000 (omega (arith, early))
few_in wall (s ∷ ss) early =
    elim (leb_tells wall (s * 12)) [
      | inl h ↦ rw h.0 (div-le_of_le-mul s h.1)
      | inr h ↦ rw h.0 (few_in wall ss early)
    ]

pub steps_few : (wall : ℕ) → wall < 2 ^ 32 → wall / step_of wall ≤ 12
steps_few wall early = few_in wall steps early

pub all_steps : All IsStep steps
all_steps =
    All-cons IsStep 1 (2 ∷ 5 ∷ 10 ∷ 20 ∷ 50 ∷ 100 ∷ 200 ∷ 500 ∷ 1000 ∷ 2000 ∷ 5000 ∷ 10000 ∷ 15000 ∷ 30000 ∷ 60000 ∷ 120000 ∷ 300000 ∷ 900000 ∷ 1800000 ∷ 3600000 ∷ 7200000 ∷ 18000000 ∷ 36000000 ∷ 72000000 ∷ 180000000 ∷ []) (record { some = omega arith; early = omega arith })
    (All-cons IsStep 2 (5 ∷ 10 ∷ 20 ∷ 50 ∷ 100 ∷ 200 ∷ 500 ∷ 1000 ∷ 2000 ∷ 5000 ∷ 10000 ∷ 15000 ∷ 30000 ∷ 60000 ∷ 120000 ∷ 300000 ∷ 900000 ∷ 1800000 ∷ 3600000 ∷ 7200000 ∷ 18000000 ∷ 36000000 ∷ 72000000 ∷ 180000000 ∷ []) (record { some = omega arith; early = omega arith })
    (All-cons IsStep 5 (10 ∷ 20 ∷ 50 ∷ 100 ∷ 200 ∷ 500 ∷ 1000 ∷ 2000 ∷ 5000 ∷ 10000 ∷ 15000 ∷ 30000 ∷ 60000 ∷ 120000 ∷ 300000 ∷ 900000 ∷ 1800000 ∷ 3600000 ∷ 7200000 ∷ 18000000 ∷ 36000000 ∷ 72000000 ∷ 180000000 ∷ []) (record { some = omega arith; early = omega arith })
    (All-cons IsStep 10 (20 ∷ 50 ∷ 100 ∷ 200 ∷ 500 ∷ 1000 ∷ 2000 ∷ 5000 ∷ 10000 ∷ 15000 ∷ 30000 ∷ 60000 ∷ 120000 ∷ 300000 ∷ 900000 ∷ 1800000 ∷ 3600000 ∷ 7200000 ∷ 18000000 ∷ 36000000 ∷ 72000000 ∷ 180000000 ∷ []) (record { some = omega arith; early = omega arith })
    (All-cons IsStep 20 (50 ∷ 100 ∷ 200 ∷ 500 ∷ 1000 ∷ 2000 ∷ 5000 ∷ 10000 ∷ 15000 ∷ 30000 ∷ 60000 ∷ 120000 ∷ 300000 ∷ 900000 ∷ 1800000 ∷ 3600000 ∷ 7200000 ∷ 18000000 ∷ 36000000 ∷ 72000000 ∷ 180000000 ∷ []) (record { some = omega arith; early = omega arith })
    (All-cons IsStep 50 (100 ∷ 200 ∷ 500 ∷ 1000 ∷ 2000 ∷ 5000 ∷ 10000 ∷ 15000 ∷ 30000 ∷ 60000 ∷ 120000 ∷ 300000 ∷ 900000 ∷ 1800000 ∷ 3600000 ∷ 7200000 ∷ 18000000 ∷ 36000000 ∷ 72000000 ∷ 180000000 ∷ []) (record { some = omega arith; early = omega arith })
    (All-cons IsStep 100 (200 ∷ 500 ∷ 1000 ∷ 2000 ∷ 5000 ∷ 10000 ∷ 15000 ∷ 30000 ∷ 60000 ∷ 120000 ∷ 300000 ∷ 900000 ∷ 1800000 ∷ 3600000 ∷ 7200000 ∷ 18000000 ∷ 36000000 ∷ 72000000 ∷ 180000000 ∷ []) (record { some = omega arith; early = omega arith })
    (All-cons IsStep 200 (500 ∷ 1000 ∷ 2000 ∷ 5000 ∷ 10000 ∷ 15000 ∷ 30000 ∷ 60000 ∷ 120000 ∷ 300000 ∷ 900000 ∷ 1800000 ∷ 3600000 ∷ 7200000 ∷ 18000000 ∷ 36000000 ∷ 72000000 ∷ 180000000 ∷ []) (record { some = omega arith; early = omega arith })
    (All-cons IsStep 500 (1000 ∷ 2000 ∷ 5000 ∷ 10000 ∷ 15000 ∷ 30000 ∷ 60000 ∷ 120000 ∷ 300000 ∷ 900000 ∷ 1800000 ∷ 3600000 ∷ 7200000 ∷ 18000000 ∷ 36000000 ∷ 72000000 ∷ 180000000 ∷ []) (record { some = omega arith; early = omega arith })
    (All-cons IsStep 1000 (2000 ∷ 5000 ∷ 10000 ∷ 15000 ∷ 30000 ∷ 60000 ∷ 120000 ∷ 300000 ∷ 900000 ∷ 1800000 ∷ 3600000 ∷ 7200000 ∷ 18000000 ∷ 36000000 ∷ 72000000 ∷ 180000000 ∷ []) (record { some = omega arith; early = omega arith })
    (All-cons IsStep 2000 (5000 ∷ 10000 ∷ 15000 ∷ 30000 ∷ 60000 ∷ 120000 ∷ 300000 ∷ 900000 ∷ 1800000 ∷ 3600000 ∷ 7200000 ∷ 18000000 ∷ 36000000 ∷ 72000000 ∷ 180000000 ∷ []) (record { some = omega arith; early = omega arith })
    (All-cons IsStep 5000 (10000 ∷ 15000 ∷ 30000 ∷ 60000 ∷ 120000 ∷ 300000 ∷ 900000 ∷ 1800000 ∷ 3600000 ∷ 7200000 ∷ 18000000 ∷ 36000000 ∷ 72000000 ∷ 180000000 ∷ []) (record { some = omega arith; early = omega arith })
    (All-cons IsStep 10000 (15000 ∷ 30000 ∷ 60000 ∷ 120000 ∷ 300000 ∷ 900000 ∷ 1800000 ∷ 3600000 ∷ 7200000 ∷ 18000000 ∷ 36000000 ∷ 72000000 ∷ 180000000 ∷ []) (record { some = omega arith; early = omega arith })
    (All-cons IsStep 15000 (30000 ∷ 60000 ∷ 120000 ∷ 300000 ∷ 900000 ∷ 1800000 ∷ 3600000 ∷ 7200000 ∷ 18000000 ∷ 36000000 ∷ 72000000 ∷ 180000000 ∷ []) (record { some = omega arith; early = omega arith })
    (All-cons IsStep 30000 (60000 ∷ 120000 ∷ 300000 ∷ 900000 ∷ 1800000 ∷ 3600000 ∷ 7200000 ∷ 18000000 ∷ 36000000 ∷ 72000000 ∷ 180000000 ∷ []) (record { some = omega arith; early = omega arith })
    (All-cons IsStep 60000 (120000 ∷ 300000 ∷ 900000 ∷ 1800000 ∷ 3600000 ∷ 7200000 ∷ 18000000 ∷ 36000000 ∷ 72000000 ∷ 180000000 ∷ []) (record { some = omega arith; early = omega arith })
    (All-cons IsStep 120000 (300000 ∷ 900000 ∷ 1800000 ∷ 3600000 ∷ 7200000 ∷ 18000000 ∷ 36000000 ∷ 72000000 ∷ 180000000 ∷ []) (record { some = omega arith; early = omega arith })
    (All-cons IsStep 300000 (900000 ∷ 1800000 ∷ 3600000 ∷ 7200000 ∷ 18000000 ∷ 36000000 ∷ 72000000 ∷ 180000000 ∷ []) (record { some = omega arith; early = omega arith })
    (All-cons IsStep 900000 (1800000 ∷ 3600000 ∷ 7200000 ∷ 18000000 ∷ 36000000 ∷ 72000000 ∷ 180000000 ∷ []) (record { some = omega arith; early = omega arith })
    (All-cons IsStep 1800000 (3600000 ∷ 7200000 ∷ 18000000 ∷ 36000000 ∷ 72000000 ∷ 180000000 ∷ []) (record { some = omega arith; early = omega arith })
    (All-cons IsStep 3600000 (7200000 ∷ 18000000 ∷ 36000000 ∷ 72000000 ∷ 180000000 ∷ []) (record { some = omega arith; early = omega arith })
    (All-cons IsStep 7200000 (18000000 ∷ 36000000 ∷ 72000000 ∷ 180000000 ∷ []) (record { some = omega arith; early = omega arith })
    (All-cons IsStep 18000000 (36000000 ∷ 72000000 ∷ 180000000 ∷ []) (record { some = omega arith; early = omega arith })
    (All-cons IsStep 36000000 (72000000 ∷ 180000000 ∷ []) (record { some = omega arith; early = omega arith })
    (All-cons IsStep 72000000 (180000000 ∷ []) (record { some = omega arith; early = omega arith })
    (All-cons IsStep 180000000 ([]) (record { some = omega arith; early = omega arith })
    (All-nil IsStep))))))))))))))))))))))))))
