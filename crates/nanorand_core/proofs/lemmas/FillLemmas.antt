-- What the calls of a closure, one for each item, return.
use Rattle.std.proofs.Common.{◌≡◌, ℕ, ◌+◌, ◌*◌, ◌≤◌, Bool, true, List, [], ◌∷◌, length, refl, sym, ◌∙◌, ap, subst, arith}
use Rattle.std.proofs.Math.Nat.{mul-suc}
use Rattle.std.specs.Fn.{iterate}
use Rattle.std.specs.List.{All}
use Rattle.std.proofs.lemmas.List.Elements.{All-nil, All-cons}
use Rattle.nanorand_core.specs.values.Values.{values_from}
use Rattle.nanorand_core.specs.values.Fills.{CallsReturn, EachCallDraws, EachCallLeaves, EachCallPasses, EachCallTakes, OwnCallsDraw, OwnCallsLeave, OwnCallsPass, OwnCallsTake}
use Rattle.nanorand_core.specs.support.IterateLemmas.{iterate-add}

module _ {F G T : Type 0} (Call : F → G → T → F → G → Type 0) where
  module _ (value : G → T) (after : G → G) (each : EachCallDraws Call value after) where
    pub values_drawn : (xs : List T) (f : F) (g end : G) → CallsReturn Call f g xs end → xs ≡ values_from value after (length xs) g
    values_drawn [] f g end calls = refl
    values_drawn (x ∷ xs) f g end calls =
        let one = each f g x calls.0 calls.1 calls.2 in
        ap (λ (y : T). y ∷ xs) one.0
        ∙ ap (λ (ys : List T). value g ∷ ys) (values_drawn xs calls.0 calls.1 end calls.3 ∙ ap (λ (h : G). values_from value after (length xs) h) one.1)

  pub state_left : (after : G → G) → EachCallLeaves Call after → (xs : List T) (f : F) (g end : G)
      → CallsReturn Call f g xs end → end ≡ iterate after (length xs) g
  state_left after each [] f g end calls = calls
  state_left after each (x ∷ xs) f g end calls =
      let one = each f g x calls.0 calls.1 calls.2 in
      state_left after each xs calls.0 calls.1 end calls.3 ∙ ap (λ (h : G). iterate after (length xs) h) one

  pub steps_taken : (step : G → G) (most : ℕ) → EachCallTakes Call step most → (xs : List T) (f : F) (g end : G)
      → CallsReturn Call f g xs end → (n : ℕ) × (n ≤ most * length xs) × (end ≡ iterate step n g)
  steps_taken step most each [] f g end calls = (0, omega arith, calls)
  steps_taken step most each (x ∷ xs) f g end calls =
      let one = each f g x calls.0 calls.1 calls.2 in
      let others = steps_taken step most each xs calls.0 calls.1 end calls.3 in (
        one.0 + others.0,
        omega (arith, one.1, others.1, mul-suc most (length xs)),
        others.2 ∙ ap (iterate step others.0) one.2 ∙ sym (iterate-add step one.0 others.0 g),
      )

  pub all_pass : (test : T → Bool) → EachCallPasses Call test → (xs : List T) (f : F) (g end : G)
      → CallsReturn Call f g xs end → All (λ x. test x ≡ true) xs
  all_pass test each [] f g end calls = All-nil (λ x. test x ≡ true)
  all_pass test each (x ∷ xs) f g end calls =
      All-cons (λ y. test y ≡ true) x xs (each f g x calls.0 calls.1 calls.2) (all_pass test each xs calls.0 calls.1 end calls.3)

module _ {F G T : Type 0} (Call : F → G → T → F → G → Type 0) (f : F) where
  -- a call of f
  abbrev Own : F → G → T → F → G → Type 0
  Own h g x h' g' = (h ≡ f) × Call h g x h' g'

  own : (h : F) (g : G) (x : T) (h' : F) (g' : G) → Own h g x h' g' → Call f g x h' g'
  own h g x h' g' call = subst (λ (k : F). Call k g x h' g') call.0 call.1

  -- if f stays as it was, all calls are calls of f
  own_calls : ((g : G) (x : T) (f' : F) (g' : G) → Call f g x f' g' → f' ≡ f) → (xs : List T) (g end : G)
      → CallsReturn Call f g xs end → CallsReturn Own f g xs end
  own_calls stays [] g end calls = calls
  own_calls stays (x ∷ xs) g end calls =
      let same = stays g x calls.0 calls.1 calls.2 in
      let one = subst (λ (h : F). Call f g x h calls.1) same calls.2 in
      let others = subst (λ (h : F). CallsReturn Call h calls.1 xs end) same calls.3 in
      (f, calls.1, (refl, one), own_calls stays xs calls.1 end others)

  pub own_values : (value : G → T) (after : G → G) → OwnCallsDraw Call f value after → (xs : List T) (g end : G)
      → CallsReturn Call f g xs end → xs ≡ values_from value after (length xs) g
  own_values value after each xs g end calls =
      values_drawn Own value after (λ h s x h' s' call. let one = each s x h' s' (own h s x h' s' call) in (one.1, one.2))
      xs f g end (own_calls (λ s x h' s' call. (each s x h' s' call).0) xs g end calls)

  pub own_state : (after : G → G) → OwnCallsLeave Call f after → (xs : List T) (g end : G)
      → CallsReturn Call f g xs end → end ≡ iterate after (length xs) g
  own_state after each xs g end calls =
      state_left Own after (λ h s x h' s' call. (each s x h' s' (own h s x h' s' call)).1)
      xs f g end (own_calls (λ s x h' s' call. (each s x h' s' call).0) xs g end calls)

  pub own_steps : (step : G → G) (most : ℕ) → OwnCallsTake Call f step most → (xs : List T) (g end : G)
      → CallsReturn Call f g xs end → (n : ℕ) × (n ≤ most * length xs) × (end ≡ iterate step n g)
  own_steps step most each xs g end calls =
      steps_taken Own step most (λ h s x h' s' call. (each s x h' s' (own h s x h' s' call)).1)
      xs f g end (own_calls (λ s x h' s' call. (each s x h' s' call).0) xs g end calls)

  pub own_pass : (test : T → Bool) → OwnCallsPass Call f test → (xs : List T) (g end : G)
      → CallsReturn Call f g xs end → All (λ x. test x ≡ true) xs
  own_pass test each xs g end calls =
      all_pass Own test (λ h s x h' s' call. (each s x h' s' (own h s x h' s' call)).1)
      xs f g end (own_calls (λ s x h' s' call. (each s x h' s' call).0) xs g end calls)
