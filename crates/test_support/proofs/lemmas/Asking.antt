-- A call of `is_refused`: what it takes, and what the caller has after it. Assumes `Logic`.
use Rattle.std.proofs.Common.{◌≡◌, ℕ, Bool, List, [], ◌∷◌, refl, ap}
use seplogic.Ra.Ura.{Ura}
use mir.Val.{Val, vbool, vptr}
use base.Logic.{SProp, ent, sep, ex, guard, id⊢}
use base.Fml.{Lft, Share, ftrue, fsep, flft}
use prog.Memory.{Memory}
use prog.Routine.{Routine}
use types.Logic.{Logic, sem}
use types.Kit.{‵, raw, ◌⊛◌, some, later, ◌$◌, ◌∵◌, !, qed, move, keep, use1, split, join, pick, fjoin, feq_i, feq_l}
use types.Kit.{check, show, await, updating, now as at_once, done}
use contract.Monad.{Fun}
use denote.Memory.{hidden_shr}
use denote.Builtin.{bool}
use denote.Steps.{nothing, only}
use denote.Triple.Statement.{Contract}
use denote.Triple.Spec.{triple_of}
use Rattle.test_support.specs.declared.allocator.Turns.{Turns}
use Rattle.test_support.specs.contracts.allocator.Turns as T
use Rattle.test_support.specs.contracts.allocator.Turns.is_refused as f

module _ {M : Type 1} {𝓤 : Ura M} (𝓛 : Logic 𝓤) (mem : Memory → SProp 𝓤) (run : Routine → Fun 𝓤) where
  abbrev pub Asks : Contract 𝓤
  Asks = triple_of 𝓛 f.signature (f.spec 𝓛 mem run)

  -- The counter at an address, borrowed for a lifetime.
  abbrev pub asked : Lft → Share → ℕ × ℕ → Turns → Asks.Ghost
  asked κ q p t = (((κ, tt), (q, tt), tt, (record { ref_ptr = p; now = t }, tt), (vptr p.0 p.1 ∷ [], tt)), tt)

  module _ (κ : Lft) (q : Share) (p : ℕ × ℕ) (t : Turns) where
    open 𝓛 use {H, A}

    -- [the `&` to the counter; the token of its lifetime]
    pub asks : ent 𝓤 (sep 𝓤 (sem 𝓛 (hidden_shr T.the_row κ t p.0 p.1)) (A.lft κ q)) (Asks.pre (asked κ q p t))
    asks =
        let place : List Val = vptr p.0 p.1 ∷ [] in
        qed 𝓛 (‵ (hidden_shr T.the_row κ t p.0 p.1) ∷ ‵ (flft κ q) ∷ []) ∵
        feq_i ! (List Val) place place refl $ fjoin ! $ nothing ! $ move ! (1 ∷ 0 ∷ []) $ fjoin ! $
        -- [the parameter; the token]
        nothing ! $ move ! (2 ∷ 0 ∷ []) $ join ! $ join ! $ nothing ! $ move ! (1 ∷ 0 ∷ []) $ join ! $ done !

    -- The result is a `bool`, and the token is returned.
    pub answered : (v : Val) → ent 𝓤 (Asks.post (asked κ q p t) v) (H.⇛ (ex 𝓤 (λ (yes : Bool). guard 𝓤 (v ≡ vbool yes) (A.lft κ q))))
    answered v =
        let Answer = λ (yes : Bool). guard 𝓤 (v ≡ vbool yes) (A.lft κ q) in
        qed 𝓛 (raw (Asks.post (asked κ q p t) v) ∷ []) ∵ updating ! $
        use1 𝓛 (later (some (λ (yes : Bool). ((‵ (flft κ q) ⊛ ‵ ftrue) ⊛ ‵ (bool.own_val yes (v ∷ [])))
        ⊛ some (λ (left : Unit {0} × Unit {0}). ‵ (fsep ftrue ftrue) ⊛ ‵ ftrue)))) (id⊢ 𝓤 _) $
        await ! tt $ pick ! (λ yes. split ! $ split ! $ move ! (1 ∷ []) $ feq_l ! (λ is. split ! $
        at_once ! $ show ! Answer yes $ check ! (ap only is) $ keep ! (0 ∷ []) $ done !))
