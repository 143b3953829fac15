-- The entrants that a record names.
use Rattle.std.proofs.Common.{◌≡◌, ℕ, List, length, take, map, min, ◌++◌, ap, append_assoc, sym, ◌∙◌, arith}
use Rattle.std.proofs.lemmas.List.{take_min, take-map}

-- The first n of what is seen of a list are those of as many of its items as it has.
pub first_of : {X Y : Type 0} (view : X → Y) (n : ℕ) (xs : List X) → map view (take (min (length xs) n) xs) ≡ take n (map view xs)
first_of view n xs =
    let same : min (length xs) n ≡ min n (length xs) = omega arith in
    ap (λ k. map view (take k xs)) same ∙ ap (map view) (take_min n xs) ∙ sym (take-map view n xs)

-- What is appended to what was appended is appended together.
pub appended : (start x y : List ℕ) {text before : List ℕ} → text ≡ before ++ y → before ≡ start ++ x → text ≡ start ++ (x ++ y)
appended start x y {text} {before} last first = last ∙ ap (λ front. front ++ y) first ∙ append_assoc start x y
