-- What the calls of a closure, one for each item, write to a slice. `Call f g x f' g'` means that a
-- call of the closure f in state g may return x, and leave the closure f' and the state g'.
use Rattle.std.specs.Prelude.{◌≡◌, ℕ, ◌≤◌, Bool, true, List, [], ◌∷◌}
use Rattle.std.specs.Fn.{iterate}

module _ {F G T : Type 0} (Call : F → G → T → F → G → Type 0) where
  -- Calls in a row, starting with f and g, that return these values and leave the state `end`.
  abbrev pub CallsReturn : F → G → List T → G → Type 0
  CallsReturn f g [] end = end ≡ g
  CallsReturn f g (x ∷ xs) end = (f' : F) × (g' : G) × Call f g x f' g' × CallsReturn f' g' xs end

  -- Every call returns `value` of the state before it, and leaves `after` of that state.
  abbrev pub EachCallDraws : (G → T) → (G → G) → Type 0
  EachCallDraws value after =
      (f : F) (g : G) (x : T) (f' : F) (g' : G) → Call f g x f' g' → (x ≡ value g) × (g' ≡ after g)

  -- Every call leaves `after` of the state before it.
  abbrev pub EachCallLeaves : (G → G) → Type 0
  EachCallLeaves after =
      (f : F) (g : G) (x : T) (f' : F) (g' : G) → Call f g x f' g' → g' ≡ after g

  -- Every call makes at most `most` steps: it leaves the state after that many steps.
  abbrev pub EachCallTakes : (G → G) → ℕ → Type 0
  EachCallTakes step most =
      (f : F) (g : G) (x : T) (f' : F) (g' : G) → Call f g x f' g'
      → (n : ℕ) × (n ≤ most) × (g' ≡ iterate step n g)

  -- Every call returns a value that passes the test.
  abbrev pub EachCallPasses : (T → Bool) → Type 0
  EachCallPasses test =
      (f : F) (g : G) (x : T) (f' : F) (g' : G) → Call f g x f' g' → test x ≡ true

-- Calls of one closure f that leave it as it was. An example is a closure that captures the bounds
-- of a range, and does not change them.
module _ {F G T : Type 0} (Call : F → G → T → F → G → Type 0) (f : F) where
  -- Every call of f leaves f as it was, returns `value` of the state before it, and leaves `after`
  -- of that state.
  abbrev pub OwnCallsDraw : (G → T) → (G → G) → Type 0
  OwnCallsDraw value after =
      (g : G) (x : T) (f' : F) (g' : G) → Call f g x f' g'
      → (f' ≡ f) × (x ≡ value g) × (g' ≡ after g)

  -- Every call of f leaves f as it was, and leaves `after` of the state before it.
  abbrev pub OwnCallsLeave : (G → G) → Type 0
  OwnCallsLeave after =
      (g : G) (x : T) (f' : F) (g' : G) → Call f g x f' g' → (f' ≡ f) × (g' ≡ after g)

  -- Every call of f leaves f as it was, and makes at most `most` steps: it leaves the state after
  -- that many steps.
  abbrev pub OwnCallsTake : (G → G) → ℕ → Type 0
  OwnCallsTake step most =
      (g : G) (x : T) (f' : F) (g' : G) → Call f g x f' g'
      → (f' ≡ f) × ((n : ℕ) × (n ≤ most) × (g' ≡ iterate step n g))

  -- Every call of f leaves f as it was, and returns a value that passes the test.
  abbrev pub OwnCallsPass : (T → Bool) → Type 0
  OwnCallsPass test =
      (g : G) (x : T) (f' : F) (g' : G) → Call f g x f' g' → (f' ≡ f) × (test x ≡ true)
