-- What a result holds whose value and refusal are told by two functions.
use Rattle.std.proofs.Common.{◌≡◌, Ok, Err, Result}
use Rattle.std.specs.Result.{result_map_both}

-- if it is told as a value, the value there is told as that one
pub told_so : {T U E D : Type 0} (f : T → U) (g : E → D) (r : Result T E) (x : T) (y : U)
    → r ≡ Ok x → result_map_both f g r ≡ Ok y → f x ≡ y
told_so f g (Ok z) x y is e = cc
told_so f g (Err z) x y is e = cc
