-- Decks of cards, and the hands that are dealt from them. The full deck of n cards is `rising n`:
-- 0, 1, .., n - 1.
use Rattle.std.specs.Prelude.{◌≡◌, ℕ, zero, suc, ◌*◌, ◌<◌, List, [], ◌++◌, length, slice_index, take, drop}

-- No card is at two indices of a deck.
abbrev pub HoldsNoneTwice : List ℕ → Type 0
HoldsNoneTwice deck =
    (i j : ℕ) → i < length deck → j < length deck → slice_index deck i ≡ slice_index deck j → i ≡ j

-- The hand of one player: `size` cards, after as many for each player before. Players are counted
-- from 0.
abbrev pub hand_of : ℕ → ℕ → List ℕ → List ℕ
hand_of size player deck = take size (drop (player * size) deck)

-- The hands of the first players, one after another.
abbrev pub hands : ℕ → ℕ → List ℕ → List ℕ
hands size zero deck = []
hands size (suc player) deck = hands size player deck ++ hand_of size player deck

-- No two of the hands hold the same card, and none holds it twice.
abbrev pub HandsAreApart : ℕ → ℕ → List ℕ → Type 0
HandsAreApart size players deck =
    (i j k l : ℕ) → i < players → k < players → j < size → l < size
    → slice_index (hand_of size i deck) j ≡ slice_index (hand_of size k deck) l → (i ≡ k) × (j ≡ l)
