-- A refused request fails here; any other request is passed on to the inner allocator. Assumes
-- `Logic`.
use Rattle.std.proofs.Common.{◌≡◌, ℕ, ◌+◌, ◌^◌, ◌<◌, true, false, Bool, List, [], ◌∷◌, Ok, Err, refl, w64, Bor}
use seplogic.Ra.Ura.{Ura}
use mir.Syntax.{Ty, Args, Fn, a_type, dnil, dcons}
use mir.Val.{Val, vbool, vint, vptr}
use mir.MapTy.{inst_fn}
use base.Logic.{SProp, ent, id⊢}
use base.Fml.{Lft, Share, ftrue, fsep, flft, froom}
use prog.Memory.{Memory, size, align, capped, up}
use prog.Routine.{Routine}
use prog.Wp.{WpFn, Tables}
use types.Logic.{Logic}
use contract.BorrowLft.{◌⊑◌, ⊑_trans}
use contract.Monad.{Fun, fact}
use contract.Running.{tables, tables_of}
use sound.WpLaws.{fm_of, WpFn-mono}
use types.Kit.{‵, raw, ◌⊛◌, some, later, given, prop, at_ret, Sq, ◌$◌, ◌∵◌, !, qed, move, keep, drop, use0, use1, use2}
use types.Kit.{split, join, fsplit, fjoin, pick, learn, suffices, await, done}
use types.Part.{agg}
use types.Run.{stop, fld, addr, lit, no_more, and_then, first, branches, skips, exec, returns, returns_within, enter}
use types.ByLocal.{alloc_all, pass_all, free_all, look_at, get, through, sets, lands_as, env}
use denote.Exit.{yes}
use denote.RattleType.{owns}
use denote.Builtin.{usize, RefOf}
use denote.Opens.{unhide}
use denote.Param.{bounded, param}
use denote.Plain.{uint_vals, uint_Tells}
use denote.RawPtr.{block_ptr}
use denote.Ref.{shr_vals}
use denote.Signature.{Slot, plain, types_at}
use denote.Steps.{heard, nothing}
use denote.Triple.Call.{calls_at}
use denote.Triple.Clauses.{Ended, Clauses}
use denote.Triple.Spec.{triple_of}
use denote.Triple.Statement.{Triple}
use denote.Triple.Table.{entered, cited}
use denote.Triple.Walked.{Stays, stay_dropped, walk_of, ends_at, walked, Goes-dropped, walk_Meets}
use Rattle.std.proofs.VecSteps.Shapes.{after}
use Rattle.std.proofs.alloc.Calls.{Al, α, seen, token, Answer, answer_val, Answer-typed, Answer-Ok, Answer-err}
use Rattle.std.proofs.alloc.Calls.{takes_key, Takes, at_takes, Answered, Takes-goes, Takes-gives, answers}
use Rattle.test_support.proofs.lemmas.Asking.{Asks, asked, asks, answered}
use Rattle.test_support.proofs.allocator.Turns.is_refused.Symbol as turn
use Rattle.test_support.proofs.allocator.Turns.is_refused.Met as turn_met
use Rattle.test_support.specs.contracts.allocator.Refusing as R
use Rattle.test_support.specs.contracts.allocator.RefusingAllocator.allocate as F
use Rattle.test_support.specs.contracts.allocator.RefusingAllocator.allocate.Key as key
use Rattle.test_support.proofs.allocator.RefusingAllocator.allocate.Statement.{statement}
use Rattle.test_support.proofs.allocator.RefusingAllocator.allocate.Code as code

-- The function, for an inner allocator.
module _ (Z : Al) where
  abbrev args : Args
  args = bounded (a_type ∷ []) (Z.row, tt) (dcons Z.d (dcons Z.drops dnil))

  abbrev body : Fn
  body = inst_fn args code.function

  abbrev self : Slot 2
  self = RefOf (0 ∷ []) tt (plain (λ _. R.the_row (param 0 Z.row))) (λ _. tt)

  abbrev number : Slot 2
  number = plain (λ _. usize)

  abbrev ended : Ended
  ended = F.ended Z.row Z.g Z.d Z.drops

  abbrev stayed : Stays ended.signature.params ended.kept
  stayed = (stay_dropped self yes, (stay_dropped number yes, (stay_dropped number yes, tt)))

  -- The addresses of the fields.
  abbrev inner_at : ℕ × ℕ → ℕ × ℕ
  inner_at p = (p.0, p.1 + up (align (α Z)) 0)

  abbrev turns_at : ℕ × ℕ → ℕ × ℕ
  turns_at p = (p.0, p.1 + up 8 (up (align (α Z)) 0 + size (α Z)))

module _ (Z : Al) {M : Type 1} {𝓤 : Ura M} (𝓛 : Logic 𝓤) (mem : Memory → SProp 𝓤) (run : Routine → Fun 𝓤) (𝓣 : Tables 𝓤 𝓛.H)
    (takes : Triple 𝓤 (𝓣.C (takes_key Z)) (Takes Z 𝓛 mem run)) (turns : Triple 𝓤 (𝓣.C turn.name) (Asks 𝓛 mem run)) where
  open 𝓛 use {H}

  abbrev held : Clauses 𝓤 (ended Z)
  held = F.clauses Z.row Z.g Z.d Z.drops 𝓛 mem run

  -- `κ` is the lifetime of the `&`, and `ρ` outlives it.
  module _ (κ ρ : Lft) (q r : Share) (within : κ ⊑ ρ) (handle : Bor (R.the_row Z.row).Denot) (n a : ℕ) (τ : Ty) where
    abbrev bound : (walk_of 𝓛 (ended Z) (stayed Z) held).Ghost
    bound = (((κ, (ρ, tt)), (q, (r, tt)), (within, tt), (handle, (n, (a, tt))), (shr_vals handle, (vint w64 n ∷ [], (vint w64 a ∷ [], tt)))), τ)

    abbrev given_values : List Val
    given_values = vptr handle.ref_ptr.0 handle.ref_ptr.1 ∷ vint w64 n ∷ vint w64 a ∷ []

    abbrev Done : Val → SProp 𝓤
    Done = (walk_of 𝓛 (ended Z) (stayed Z) held).post bound

    -- The exit that returns the inner allocator's block, with the right to free it.
    handed : (b o : ℕ) → Sq 𝓛 (‵ (fsep (froom τ b o) (token Z handle.now.inner τ (block_ptr b o))) ∷ ‵ (flft κ q)
        ∷ (‵ (flft ρ r) ⊛ ‵ ftrue) ∷ []) (prop (Done (answer_val true b o)))
    handed b o =
        suffices ! _ (ends_at 𝓛 (ended Z) (stayed Z) held bound (answer_val true b o) (Ok (block_ptr b o)) (tt, (tt, (tt, tt))) (tt, (tt, (tt, tt)))) $
        use0 𝓛 (‵ (Answer.own_val (Ok (block_ptr b o)) (answer_val true b o ∷ []))) (Answer-Ok 𝓛 b o) $
        nothing ! $ nothing ! $ fjoin ! $ nothing ! $ fjoin ! $ nothing ! $ fjoin ! $ join ! $ move ! (2 ∷ 3 ∷ []) $ join ! $ join ! $ done !

    -- The two exits that return an error.
    refused : Sq 𝓛 (‵ ftrue ∷ ‵ (flft κ q) ∷ (‵ (flft ρ r) ⊛ ‵ ftrue) ∷ []) (prop (Done (answer_val false 0 0)))
    refused =
        suffices ! _ (ends_at 𝓛 (ended Z) (stayed Z) held bound (answer_val false 0 0) (Err (record {})) (tt, (tt, (tt, tt))) (tt, (tt, (tt, tt)))) $
        use0 𝓛 (‵ (Answer.own_val (Err (record {})) (answer_val false 0 0 ∷ []))) (Answer-err 𝓛) $
        nothing ! $ nothing ! $ fjoin ! $ nothing ! $ fjoin ! $ nothing ! $ fjoin ! $ join ! $ move ! (2 ∷ 3 ∷ []) $ join ! $ join ! $ done !

    walk : n < 2 ^ 64 → a < 2 ^ 64 → ent 𝓤 ((walk_of 𝓛 (ended Z) (stayed Z) held).pre bound) (WpFn 𝓤 H 𝓣.C 𝓣.Λ (body Z) given_values Done)
    walk n_fits a_fits =
        let h : Z.row.Denot = handle.now.inner in
        let p = inner_at Z handle.ref_ptr in
        let t = turns_at Z handle.ref_ptr in
        let passed : (Takes Z 𝓛 mem run).Ghost = at_takes Z 𝓛 mem run κ q p h n a τ in
        let Asked : Type 0 = (capped (size τ) ≡ n) × (capped (align τ) ≡ a) in
        qed 𝓛 (((‵ (flft κ q) ⊛ ‵ (flft ρ r) ⊛ ‵ ftrue)
        ⊛ ‵ (owns (types_at (ended Z).signature.params bound.0.0) bound.0.3 bound.0.4))
        ∷ (raw (fact 𝓤 (ρ ⊑ Z.row.lives)) ⊛ raw (fact 𝓤 Asked)) ∷ []) ∵
        move ! (1 ∷ []) $ split ! $ heard ! (ρ ⊑ Z.row.lives) (λ lasts. heard ! Asked (λ is_asked.
        split ! $ split ! $ move ! (2 ∷ []) $ fsplit ! $ fsplit ! $ move ! (1 ∷ []) $ unhide ! $ fsplit ! $ fsplit ! $
        use1 𝓛 (‵ (seen Z κ p h)) (id⊢ 𝓤 _) $ move ! (1 ∷ []) $ fsplit ! $
        keep ! (0 ∷ 6 ∷ 2 ∷ 7 ∷ []) $
        -- [the counter; the token of κ; the inner allocator; the token of ρ]
        enter ! 𝓣.C 𝓣.Λ (body Z) given_values _ $
        alloc_all ! (λ l. pass_all ! refl
        ((tt, tt), ((tt, record { fits = n_fits }), ((tt, record { fits = a_fits }), tt))) $
        sets ! (addr ! (through ! refl (fld ! refl (stop !)))) refl (tt, tt) $
        use2 𝓛 (raw ((Asks 𝓛 mem run).pre (asked 𝓛 mem run κ q t handle.now.turns))) (asks 𝓛 mem run κ q t handle.now.turns) $
        calls_at ! (fm_of 𝓤 H 𝓛.laws 𝓣) (Asks 𝓛 mem run) turns (asked 𝓛 mem run κ q t handle.now.turns) (and_then ! (get ! refl) (no_more !)) (λ u.
        use1 𝓛 (later (some (λ (refuse : Bool). given (u ≡ vbool refuse) (‵ (flft κ q))))) (answered 𝓛 mem run κ q t handle.now.turns u) $
        await ! tt $ pick ! (λ refuse. learn ! (λ is. lands_as ! is refl (tt, tt) $
        first ! $ branches ! (get ! refl)
        (λ yes. move ! (1 ∷ []) $ drop ! $ nothing ! $
        sets ! (agg ! (no_more !)) refl (tt, tt) $
        sets ! (agg ! (and_then ! (lit ! tt) (and_then ! (get ! refl) (no_more !)))) refl (Answer-typed false 0 0) $
        returns_within ! Done refl (look_at ! 0 refl) $ free_all ! refl $ refused)
        (λ no. skips ! $ exec ! 𝓣.C 𝓣.Λ (env (body Z).locals l) (after 3 (body Z).body) (at_ret (env (body Z).locals l) Done) $
        sets ! (addr ! (through ! refl (fld ! refl (stop !)))) refl (tt, tt) $ move ! (1 ∷ []) $
        -- [the inner allocator; the token of κ; the token of ρ]
        use2 𝓛 (raw ((Takes Z 𝓛 mem run).pre passed))
        (Takes-goes Z 𝓛 mem run κ q p h (⊑_trans κ ρ Z.row.lives within lasts) n a τ is_asked.0 is_asked.1 n_fits
        a_fits) $
        calls_at ! (fm_of 𝓤 H 𝓛.laws 𝓣) (Takes Z 𝓛 mem run) takes passed
        (and_then ! (get ! refl) (and_then ! (get ! refl) (and_then ! (get ! refl) (no_more !)))) (λ v.
        use1 𝓛 (later (raw (Answered Z 𝓛 mem run h τ v) ⊛ ‵ (flft κ q))) (Takes-gives Z 𝓛 mem run κ q p h n a τ v) $ await ! tt $ split ! $
        answers Z ! mem run h τ v
        (λ b o e. fjoin ! $ lands_as ! e refl (Answer-typed true b o) $ returns ! (look_at ! 0 refl) $ free_all ! refl $ handed b o)
        (λ e. nothing ! $ lands_as ! e refl (Answer-typed false 0 0) $ returns ! (look_at ! 0 refl) $ free_all ! refl $ refused)))))))))

pub allocate_spec : {M : Type 1} → statement M
unfolding tables_of
allocate_spec 𝓤 𝓛 𝓜 𝓡 wired B laws g d drops met _ =
    let Z : Al = record { row = B; laws = laws; g = g; d = d; drops = drops } in
    let 𝓣 : Tables 𝓤 𝓛.H = tables_of 𝓤 𝓛.H 𝓜 (tables 𝓤 𝓛.H 𝓜 𝓡 𝓡.env) in
    let c = F.clauses B g d drops 𝓛 𝓜.mem 𝓡.returns in
    let runs = WpFn 𝓤 𝓛.H 𝓣.C 𝓣.Λ (body Z) in
    let gone = Goes-dropped 𝓛 2 (number Z) yes (λ κs x f. refl) in
    let turns = cited 𝓤 𝓛.H _ 𝓜 𝓡 𝓡.env turn.name (𝓡.env turn.name) refl
    (turn_met.met 𝓤 𝓛 𝓜 𝓡 (code.calls-test_support::allocator::Turns::is_refused 𝓡.env wired)) in
    entered 𝓤 𝓛.H (triple_of 𝓛 (F.signature B) (F.spec B g d drops 𝓛 𝓜.mem 𝓡.returns)) 𝓣.C 𝓣.Λ (key.name (args Z)) (body Z)
    (code.unfolded 𝓤 𝓛.H 𝓜 𝓡 wired (B, tt) d drops)
    (walk_Meets 𝓛 (ended Z) (stayed Z) (Goes-dropped 𝓛 2 (self Z) yes (λ κs x f. refl), (gone, (gone, tt))) c runs (WpFn-mono 𝓤 𝓛.H 𝓛.laws 𝓣 (body Z))
    (walked 𝓛 (ended Z) (stayed Z) c runs (λ κs. (shr_vals, (uint_vals w64, (uint_vals w64, tt))))
    (λ κs. ((λ r vs s. s.0), (uint_Tells w64, (uint_Tells w64, tt))))
    (λ κs qs bounds a τ are. walk Z 𝓛 𝓜.mem 𝓡.returns 𝓣 (met.allocate drops) turns κs.0 κs.1.0 qs.0 qs.1.0 bounds.0 a.0 a.1.0 a.1.1.0 τ are.1.0.1 are.1.1.0.1)))
