-- A footing lies inside the widest one that its roll can have.
use Rattle.std.proofs.Common.{◌≡◌, ℕ, ◌+◌, ◌-◌, ◌<◌, ◌≤◌, false, List, [], ◌∷◌, length, get_or, Some, None, Option, sym, refl, ◌∙◌, subst, arith, length-take}
use Rattle.std.proofs.lemmas.Bool.Decides.{nat_tests}
use Rattle.std.proofs.lemmas.List.{get_or-take}
use Rattle.conventions.specs.Tries.{Served, Among}
use Rattle.bonds.specs.declared.terms.Terms.{Terms}
use Rattle.bonds.specs.Rolls.{rolls}
use Rattle.bonds.proofs.Rolling.{spanning}
use Rattle.generation.specs.Rolls.{RollDays, up_to, Span, stretched, footing}
use Rattle.generation.specs.NearRolls.{Near}
use Rattle.generation.specs.Schedules.{Scheduled, roll_in}
use Rattle.generation.specs.Retrying.{holds_one, widest, counts}
use Rattle.generation.proofs.Nearness.{NearTries}
use Rattle.generation.proofs.Runs.{up_to_front, above_all, below_all}

-- the days tried up to a day are tried
up_to_tried : (a d : ℕ) (ds : List ℕ) → Among d (up_to a ds) → Among d ds
up_to_tried a d ds m =
    let n = length (up_to a ds) in
    let f = subst (λ (xs : List ℕ). Among d xs) (up_to_front a ds) m in
    let k : (f.0 < n) × (f.0 < length ds) = (let l = length-take n ds in (omega (arith, f.1), omega (arith, f.1))) in
    (f.0, k.1, sym (get_or-take n ds f.0 0 k.0) ∙ f.2)

-- from a higher day one is stretched back no farther
stretched_rises : (a b : ℕ) (fixing : Option ℕ) → a ≤ b → stretched a fixing ≤ stretched b fixing
stretched_rises a b None h = h
stretched_rises a b (Some d) h = omega arith

-- a span lies inside another
abbrev Inside : Span → Span → Type 0
Inside s t = (t.low ≤ s.low) × (s.high ≤ t.high)

-- where no day tried is far from u, and the adjusted day is not either
in_widest : (u : ℕ) (ds : List ℕ) (r : RollDays) → ((d : ℕ) → Among d ds → Near u d) → Near u r.adjusted → Inside (footing u ds r) (widest r)
in_widest u ds r near h =
    let run = up_to r.adjusted ds in
    let each : (d : ℕ) → Among d run → Near u d = λ d m. near d (up_to_tried r.adjusted d ds m) in
    let low = above_all (r.adjusted - 60) u run (omega (arith, h.1)) (λ d m. omega (arith, h.1, (each d m).0)) in
    (stretched_rises _ _ r.fixing low, below_all (r.adjusted + 60) u run (omega (arith, h.0)) (λ d m. omega (arith, h.0, (each d m).1)))

-- inside a span that holds none of the days, none is held
none_held : (s t : Span) (days : List ℕ) → Inside s t → holds_one t days ≡ false → holds_one s days ≡ false
none_held s t [] w h = refl
none_held s t (d ∷ ds) w h = let more = none_held s t ds w in grind (arith, nat_tests, w.0, w.1)

-- a roll's unadjusted day is served
serves : (t : Terms) (i : ℕ) → i < length (rolls t) → Served (get_or (rolls t) i 0)
serves t i l = let s = spanning t in (omega (arith, s.low i l, t.early), omega (arith, s.high i l, t.late))

-- so a roll whose widest footing holds none of the days does not count
pub far_away : (tries : ℕ → List ℕ) (days : List ℕ) (x : Scheduled) (i : ℕ) → NearTries tries → i < length (rolls x.terms)
    → Near (get_or (rolls x.terms) i 0) (roll_in x i).adjusted → holds_one (widest (roll_in x i)) days ≡ false → counts tries days x i ≡ false
unfolding counts
far_away tries days x i near l here =
    let u = get_or (rolls x.terms) i 0 in
    let r = roll_in x i in none_held (footing u (tries u) r) (widest r) days (in_widest u (tries u) r (λ d. near u d (serves x.terms i l)) here)
