-- Stations of themselves: who was used knows that it entered, who has joined was used and knows that it joined, and whoever
-- has an operation under way has joined. Rests on `Changes` (the induction over stations).
use Rattle.std.proofs.Common.{◌≡◌, ℕ, true, refl, arith}
use Rattle.std.proofs.lemmas.Bool.{both_ways}
use Rattle.std.proofs.lemmas.Bool.Decides.{nat_tests}
use Rattle.settings.specs.declared.choice.Choice.{Choice}
use Rattle.stations.specs.Members.{put}
use Rattle.stations.proofs.Counting.{put_here}
use Rattle.network.specs.declared.content.Content.{Content}
use Rattle.network.specs.declared.station.Station.{Station}
use Rattle.network.specs.Hearing.{hear}
use Rattle.network.specs.Keeping.{is_used, under_way}
use Rattle.network.specs.Knowing.{Set}
use Rattle.runs.proofs.Positions.{Run, station}
use Rattle.runs.proofs.Accepted.{hears}
use Rattle.runs.proofs.Growing.{present_used, grown_heard}
use Rattle.runs.proofs.Entries.{heard_under_way}
use Rattle.runs.proofs.Changes.{fades_used, still_used, stationwise}

-- what a station knows of itself
record SelfAware {R : Type 0} (q : ℕ) (x : Station R Set) : Type 0 where
  pub entered : is_used x.life ≡ true → x.known.entered q ≡ true
  pub used : x.joined ≡ true → is_used x.life ≡ true
  pub joined : x.joined ≡ true → x.known.joined q ≡ true
  pub member : under_way x.operation ≡ true → x.joined ≡ true

-- who joins at a message notes itself joined
hear_joins : {R : Type 0} (c : Choice) (q : ℕ) (m : Content R Set) (x : Station R Set) → (x.joined ≡ true → x.known.joined q ≡ true) → (hear c q m x).joined ≡ true
    → (hear c q m x).known.joined q ≡ true
unfolding hear put
hear_joins c q m x h j = grind (arith, nat_tests)

module _ {R : Type 0} (z : Run R) where
  self_aware : (i q : ℕ) → SelfAware q (station z i q)
  self_aware =
      stationwise z SelfAware
      (λ q. record { entered = λ h. grind (arith, nat_tests); used = λ h. grind (arith, nat_tests); joined = λ h. grind (arith, nat_tests); member = λ h. grind (arith, nat_tests) })
      (λ i q e. record { entered = λ h. put_here _ q true; used = λ h. refl; joined = λ h. absurd (both_ways _ refl h); member = λ h. absurd (both_ways _ refl h) })
      (λ i q l c f k. record { entered = λ h. k.entered (fades_used z i q l c f); used = λ h. still_used z i q l c f; joined = k.joined; member = k.member })
      (λ i q t b k. record { entered = k.entered; used = k.used; joined = k.joined; member = λ h. b.joined })
      (λ i q n c a w k.
      let g = grown_heard z.setup.choice q c.content (station z i q) in
      let u = present_used _ (hears z i n q a).acts.is_here in
      record {
        entered = λ h. g.knows_entered q (k.entered u);
        used = λ h. g.used u;
        joined = hear_joins z.setup.choice q c.content (station z i q) k.joined;
        member = λ h. g.joined (k.member (heard_under_way z.setup.choice q c.content (station z i q) h));
      })

  pub knows_itself_entered : (i q : ℕ) → is_used (station z i q).life ≡ true → (station z i q).known.entered q ≡ true
  knows_itself_entered i q = (self_aware i q).entered

  pub joined_used : (i q : ℕ) → (station z i q).joined ≡ true → is_used (station z i q).life ≡ true
  joined_used i q = (self_aware i q).used

  pub knows_itself_joined : (i q : ℕ) → (station z i q).joined ≡ true → (station z i q).known.joined q ≡ true
  knows_itself_joined i q = (self_aware i q).joined

  pub busy_joined : (i q : ℕ) → under_way (station z i q).operation ≡ true → (station z i q).joined ≡ true
  busy_joined i q = (self_aware i q).member
