-- Trying anew what stands on a changed day is working everything out afresh.
use Rattle.std.proofs.Common.{◌≡◌, ℕ, List, [], ◌∷◌, refl}
use Rattle.amendments.specs.Meanings.{Meaning}
use Rattle.generation.specs.Granting.{followed, each_granted}
use Rattle.generation.specs.Schedules.{Scheduled, schedule_answer}
use Rattle.generation.specs.Retrying.{retried, SameButFor}
use Rattle.generation.proofs.Retried.{retry_is_afresh}
use Rattle.sheet.specs.FreshSheets.{good_days, schedules}
use Rattle.sheet.specs.KeptBonds.{bonds_of, Sound}
use Rattle.sheet.proofs.Soundness.{EachFresh, to_each}

module _ (tries : ℕ → List ℕ) (before after : Meaning) (days : List ℕ) (same : SameButFor days (good_days before) (good_days after)) where
  one_by_one : (xs : List Scheduled) → EachFresh (schedule_answer (good_days before) tries) (λ x. x.terms) xs
      → each_granted (retried (good_days after) tries days) xs ≡ schedules tries after (bonds_of xs)
  unfolding each_granted
  one_by_one [] e = refl
  one_by_one (x ∷ xs) e =
      let here = retry_is_afresh (good_days before) (good_days after) tries days same x e.0 in
      let more = one_by_one xs e.1 in
      λ i. followed (here i) (more i)

  -- from what generation gave before to what it gives after, refusals included
  pub retried_all : (xs : List Scheduled) → Sound tries before xs → each_granted (retried (good_days after) tries days) xs ≡ schedules tries after (bonds_of xs)
  retried_all xs sound = one_by_one xs (to_each (schedule_answer (good_days before) tries) (λ (x : Scheduled). x.terms) xs sound)
