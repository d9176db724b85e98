-- Each range and condition of an admitted choice, by name.
use Rattle.std.proofs.Common.{◌≤◌}
use Rattle.settings.specs.declared.choice.Choice.{Choice}
use Rattle.settings.specs.Conditions.{Met, survivors, joiners, join_bound, quorum, quorums}
use Rattle.settings.specs.Admission.{Admitted}

module _ (c : Choice) (h : Admitted c) where
  pub beta_low : 1 ≤ c.beta
  beta_low = h.0.0.0.2

  pub gamma_low : 1 ≤ c.gamma
  gamma_low = h.0.0.0.3

  pub nmin_low : 1 ≤ c.nmin
  nmin_low = h.0.0.1.0

  pub d_low : 1 ≤ c.d
  d_low = h.0.0.1.1

  pub alpha_high : c.alpha ≤ 15
  alpha_high = h.0.1.0.0

  pub delta_high : c.delta ≤ 100
  delta_high = h.0.1.0.1

  pub beta_high : c.beta ≤ 100
  beta_high = h.0.1.0.2

  pub gamma_high : c.gamma ≤ 100
  gamma_high = h.0.1.0.3

  pub nmin_high : c.nmin ≤ 256
  nmin_high = h.0.1.1.0

  pub d_high : c.d ≤ 32
  d_high = h.0.1.1.1

  pub survivors_stay : Met (survivors c)
  survivors_stay = h.1.0

  pub joiners_hear : Met (joiners c)
  joiners_hear = h.1.1

  pub join_bound_met : Met (join_bound c)
  join_bound_met = h.1.2

  pub quorum_met : Met (quorum c)
  quorum_met = h.1.3

  pub quorums_touch : Met (quorums c)
  quorums_touch = h.1.4
