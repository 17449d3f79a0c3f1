-- Days read afresh into the cache.
use Rattle.std.proofs.Common.{◌≡◌, ℕ, ◌+◌, ◌-◌, ◌<◌, Bool, cond, List, Some, None, ap, arith}
use mathlib.Core.Path.{fun_ext}
use Rattle.std.proofs.lemmas.Bool.Decides.{nat_tests}
use Rattle.amendments.specs.Meanings.{Meaning, Rest, meaning, recoded}
use Rattle.day_cache.specs.Nibbles.{kept_code}
use Rattle.day_cache.specs.Caches.{cached, cache_codes, Faithful}

-- a day that is kept, read afresh
pub refreshed : (ws ws' : List ℕ) (start day k c : ℕ) (lower : ℕ → ℕ) → Some k ≡ cond (cached start day) (Some (day - start)) None
    → kept_code ws' ≡ recoded (kept_code ws) k c → c ≡ lower day → cache_codes ws' start lower ≡ recoded (cache_codes ws start lower) day (lower day)
refreshed ws ws' start day k c lower at e q = fun_ext (λ d. let w = ap (λ f. f (d - start)) e in grind (arith, nat_tests))

-- one more day filled
pub fill_more : (old new lower : ℕ → ℕ) (day : ℕ) → ((d : ℕ) → d < day → old d ≡ lower d) → new ≡ recoded old day (lower day) → (d : ℕ) → d < day + 1 → new d ≡ lower d
fill_more old new lower day h e d l = let p = h d in let w = ap (λ f. f d) e in grind (arith, nat_tests)

-- all days filled
pub fill_all : (ws : List ℕ) (start : ℕ) (lower : ℕ → ℕ) → ((d : ℕ) → d < start + 1024 → cache_codes ws start lower d ≡ lower d) → Faithful ws start lower
fill_all ws start lower h = fun_ext (λ d. let p = h d in grind (arith, nat_tests))

-- the cache stays faithful where the calendar's codes altered at one day at most, which was then read afresh
pub still_faithful : (ws : List ℕ) (start day code : ℕ) (lower new : ℕ → ℕ) (now : Meaning) (granted : Bool) (r r' : Rest) → Faithful ws start lower
    → now ≡ cond granted (meaning (recoded lower day code) r') (meaning lower r)
    → new ≡ recoded (cache_codes ws start now.codes) day (now.codes day) → new ≡ now.codes
still_faithful ws start day code lower new now granted r r' f e read =
    fun_ext
    (λ d.
    let p = ap (λ h. h d) f in
    let w = ap (λ h. h d) read in
    let n = ap (λ m. m.codes d) e in
    grind (arith, nat_tests))
