use Rattle.std.proofs.Common.{◌≡◌, ℕ, ◌<◌, List, [], ◌∷◌, Option, Some, None, IfSome, Contains, All, refl, ◌∙◌, arith}
use Rattle.std.proofs.lemmas.List.Elements.{All-nil, All-cons, All-contains}
use Rattle.std.proofs.iter.Yields.{nat_range_steps}
use Rattle.std.specs.Iterator.{Yields}
use Rattle.std.specs.declared.ops.Range.{Range}
use Rattle.nanorand_rand_users.proofs.kit_draws.place.Goals as goal

-- The numbers that a range yields are below its end.
below_end : (end : ℕ) (s t : Range ℕ) (xs : List ℕ) → s.end ≡ end → Yields nat_range_steps s xs t → All (λ x. x < end) xs
below_end end s t [] same run = All-nil _
below_end end s t (x ∷ xs) same run =
    All-cons (λ x. x < end) x xs (omega (arith, same, run.1.1.0, run.1.1.1)) (below_end end run.0 t xs (run.1.0 ∙ same) run.2)

-- One of these numbers is below the end too.
some_below : (item : Option ℕ) (s : Range ℕ)
    → IfSome item (λ x. (xs : List ℕ) × (t : Range ℕ) × Yields nat_range_steps s xs t × Contains xs x)
    → IfSome item (λ x. x < s.end)
some_below None s run = tt
some_below (Some x) s run = All-contains (λ y. y < s.end) run.0 x (below_end s.end s run.1 run.0 refl run.2) run.3

pub returns : goal.returns
returns g c = some_below _ _ c.choose.ensures.member
