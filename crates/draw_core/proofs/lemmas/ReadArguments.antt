-- The arguments, read one by one: first the requests, then all arguments.
use Rattle.std.proofs.Common.{◌≡◌, ℕ, ◌+◌, ◌<◌, ◌≤◌, ◌-◌, take, take_all, length-drop, Some, List, [], ◌∷◌, ◌++◌}
use Rattle.std.proofs.Common.{length, drop, get_or, sym, ap, subst, ◌∙◌, append_assoc, drop-cons, add-one, arith}
use Rattle.std.proofs.Common.{append-nil, zero, suc, get_or-drop}
use Rattle.std.proofs.lemmas.List.{get_or-map, drop_all, drop-map}
use Rattle.std.specs.Prelude.{String, string_bytes}
use Rattle.nanorand_replay.specs.declared.replay.Call.{Call}
use Rattle.draw_core.specs.Requests.{IsRequest}
use Rattle.draw_core.specs.Arguments.{AreRequests, argument_at, texts, Asked, IsReadable, IsFirstUnreadable, FirstBadRequest}

-- The bytes of the argument at an index.
pub text_at : {A : Type 0} (arguments : List (String A)) (index : ℕ) (argument : String A) → index < length arguments
    → argument ≡ get_or arguments index argument → argument_at (texts arguments) index ≡ string_bytes argument
text_at arguments index argument within is = get_or-map string_bytes arguments index argument [] within ∙ ap string_bytes (sym is)

-- After the last index, nothing is left to read.
pub said_all : (arguments : List (List ℕ)) (calls : List Call) (index : ℕ) → length arguments ≤ index
    → ((rest : List Call) → AreRequests (drop index arguments) rest → AreRequests arguments (calls ++ rest))
    → AreRequests arguments calls
said_all arguments calls index end said = subst (AreRequests arguments) (append-nil calls)
    (said [] (subst (λ ws. AreRequests ws []) (sym (drop_all index arguments end)) tt))

-- The arguments from an index on are the one at the index and those after it.
next_word : (arguments : List (List ℕ)) (index : ℕ) → index < length arguments → drop index arguments ≡ argument_at arguments index ∷ drop (index + 1) arguments
next_word arguments index within = rw (drop-cons arguments index []) (ap (λ n. argument_at arguments index ∷ drop n arguments) (sym (add-one index)))

module _ (arguments : List (List ℕ)) (calls : List Call) (index : ℕ) (within : index < length arguments) (call : Call) where
  pub said_more : ((rest : List Call) → AreRequests (drop index arguments) rest
      → AreRequests arguments (calls ++ rest)) → IsRequest (argument_at arguments index) call → (rest : List Call)
      → AreRequests (drop (index + 1) arguments) rest → AreRequests arguments ((calls ++ call ∷ []) ++ rest)
  said_more said here rest behind =
      subst (AreRequests arguments) (sym (append_assoc calls (call ∷ []) rest))
      (said (call ∷ rest) (subst (λ ws. AreRequests ws (call ∷ rest)) (sym (next_word arguments index within))
      (here, behind)))

  first_is : (rest : List Call) → ((other : Call) → IsRequest (argument_at arguments index) other → Some call
      ≡ Some other) → AreRequests (argument_at arguments index ∷ drop (index + 1) arguments) rest → (more : List Call)
      × (rest ≡ call ∷ more) × AreRequests (drop (index + 1) arguments) more
  first_is [] one behind = absurd behind
  first_is (other ∷ more) one behind = let same = one other behind.0 in (more, cc, behind.1)

  pub only_more : ((others : List Call) → AreRequests arguments others → (rest : List Call) × (others ≡ calls ++ rest)
      × AreRequests (drop index arguments) rest)
      → ((other : Call) → IsRequest (argument_at arguments index) other → Some call ≡ Some other)
      → (others : List Call) → AreRequests arguments others → (rest : List Call)
      × (others ≡ (calls ++ call ∷ []) ++ rest) × AreRequests (drop (index + 1) arguments) rest
  only_more only one others all =
      let old = only others all in
      let next = first_is old.0 one (subst (λ ws. AreRequests ws old.0) (next_word arguments index within) old.2) in
      (next.0, old.1 ∙ ap (λ rest. calls ++ rest) next.1 ∙ sym (append_assoc calls (call ∷ []) next.0), next.2)

-- Dropping arguments and taking their bytes commute.
pub texts_from : {A : Type 0} (n : ℕ) (arguments : List (String A)) → texts (take (length arguments - n) (drop n arguments)) ≡ drop n (texts arguments)
texts_from n arguments = ap texts (take_all (length arguments - n) (drop n arguments)
    (omega (arith, length-drop n arguments))) ∙ sym (drop-map string_bytes n arguments)

-- Two records with equal fields are equal.
pub same_asked : (a b : Asked) → a.generator ≡ b.generator → a.mode ≡ b.mode → a.count ≡ b.count → a.calls ≡ b.calls → a ≡ b
same_asked a b generator mode count calls = λ i. record { generator = generator i; mode = mode i; count = count i; calls = calls i }

-- An argument after the first four.
pub behind_four : (arguments : List (List ℕ)) (index : ℕ) → argument_at (drop 4 arguments) index ≡ argument_at arguments (4 + index)
behind_four arguments index = get_or-drop 4 arguments index []

-- Each argument before the first bad request can be read.
before : (arguments : List (List ℕ)) (bad : ℕ) → IsReadable arguments 0 → IsReadable arguments 1
    → IsReadable arguments 2 → IsReadable arguments 3
    → ((earlier : ℕ) → earlier < bad → (call : Call) × IsRequest (argument_at (drop 4 arguments) earlier) call)
    → (index : ℕ) → index + 1 < bad + 5 → IsReadable arguments index
before arguments bad one two three four first zero within = one
before arguments bad one two three four first (suc zero) within = two
before arguments bad one two three four first (suc (suc zero)) within = three
before arguments bad one two three four first (suc (suc (suc zero))) within = four
before arguments bad one two three four first (suc (suc (suc (suc index)))) within =
    let found = first index (omega arith) in (found.0, subst (λ t. IsRequest t found.0) (behind_four arguments index) found.1)

pub first_of_all : (arguments : List (List ℕ)) (k : ℕ) → IsReadable arguments 0 → IsReadable arguments 1
    → IsReadable arguments 2 → IsReadable arguments 3 → FirstBadRequest (drop 4 arguments) k
    → IsFirstUnreadable arguments k
first_of_all arguments k one two three four bad = record {
  counted = omega (arith, bad.number);
  there = omega (arith, bad.number, bad.there, length-drop 4 arguments);
  unreadable = λ readable.
      let index : k - 1 ≡ suc (suc (suc (suc bad.index))) = omega (arith, bad.number) in
      let said = subst (IsReadable arguments) index readable in
      bad.unreadable said.0 (subst (λ t. IsRequest t said.0) (sym (behind_four arguments bad.index)) said.1);
  first = λ index within. before arguments bad.index one two three four bad.first index (omega (arith, bad.number));
}

-- Only one argument is the first that cannot be read.
pub one_first : (arguments : List (List ℕ)) (n k : ℕ) → IsFirstUnreadable arguments n → IsFirstUnreadable arguments k → n ≡ k
one_first arguments n k one other =
    let below : n < k → ⊥ = λ less. one.unreadable (other.first (n - 1) (omega (arith, one.counted, less))) in
    let above : k < n → ⊥ = λ more. other.unreadable (one.first (k - 1) (omega (arith, other.counted, more))) in
    omega (arith, below, above)

-- Among the first four arguments, one that cannot be read after others that can is the first that
-- cannot be read.
is_first : (arguments : List (List ℕ)) (n : ℕ) → n < 4 → (IsReadable arguments n → ⊥)
    → ((index : ℕ) → index < n → IsReadable arguments index) → IsFirstUnreadable arguments (suc n)
is_first arguments n small bad readable = record {
  counted = omega arith;
  there = omega arith;
  unreadable = λ said. bad (subst (IsReadable arguments) (let same : suc n - 1 ≡ n = omega arith in same) said);
  first = λ index within. readable index (omega (arith, within));
}

readable_two : (arguments : List (List ℕ)) → IsReadable arguments 0 → IsReadable arguments 1 → (index : ℕ) → index < 2 → IsReadable arguments index
readable_two arguments one two zero within = one
readable_two arguments one two (suc zero) within = two
readable_two arguments one two (suc (suc index)) within = absurd (omega arith)

pub second_is_bad : (arguments : List (List ℕ)) → IsReadable arguments 0 → (IsReadable arguments 1 → ⊥) → IsFirstUnreadable arguments 2
second_is_bad arguments one bad = is_first arguments 1 (omega arith) bad
    (λ index within. subst (IsReadable arguments) (let same : 0 ≡ index = omega (arith, within) in same) one)

pub third_is_bad : (arguments : List (List ℕ)) → IsReadable arguments 0 → IsReadable arguments 1 → (IsReadable arguments 2 → ⊥) → IsFirstUnreadable arguments 3
third_is_bad arguments one two bad = is_first arguments 2 (omega arith) bad (readable_two arguments one two)

-- If the first four arguments can be read, none of them is the first that cannot be read.
pub none_is_bad : (arguments : List (List ℕ)) → IsReadable arguments 0 → IsReadable arguments 1
    → IsReadable arguments 2 → IsReadable arguments 3 → (k : ℕ) → k ≤ 4 → IsFirstUnreadable arguments k → ⊥
none_is_bad arguments one two three four k small first =
    first.unreadable (before arguments 0 one two three four (λ earlier none. absurd (omega (arith, none))) (k - 1) (omega (arith, first.counted)))
