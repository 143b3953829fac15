-- A block is returned to the inner allocator, which allocated it. Assumes `Logic`.
use Rattle.std.proofs.Common.{◌≡◌, ℕ, ◌+◌, ◌^◌, ◌<◌, List, [], ◌∷◌, refl, w64, Bor}
use seplogic.Ra.Ura.{Ura}
use mir.Syntax.{Ty, Args, Fn, a_type, dnil, dcons}
use mir.Val.{Val, vunit, vint, vptr}
use mir.MapTy.{inst_fn}
use base.Logic.{SProp, ent, never_e, id⊢}
use base.Fml.{Lft, Share, ftrue, ffalse, fsep, flft, froom}
use prog.Memory.{Memory, size, align, capped, up}
use prog.Routine.{Routine}
use prog.Wp.{WpFn, Tables}
use types.Logic.{Logic}
use contract.BorrowLft.{◌⊑◌, ⊑_trans}
use contract.Monad.{Fun, fact}
use contract.Running.{tables, tables_of}
use sound.WpLaws.{fm_of, WpFn-mono}
use types.Kit.{Item, ‵, raw, ◌⊛◌, later, given, prop, Sq, ◌$◌, ◌∵◌, !, qed, by, move, keep, use1, split, split3, join}
use types.Kit.{fsplit, fjoin, feq_i, learn, suffices, await, done}
use types.Run.{stop, fld, addr, of_opd, unit_lit, no_more, and_then, returns, enter}
use types.ByLocal.{alloc_all, pass_all, free_all, look_at, get, through, sets, lands_as}
use denote.Exit.{yes}
use denote.RattleType.{owns}
use denote.Builtin.{usize, RawPtr, RefOf}
use denote.Opens.{unhide}
use denote.Param.{bounded, param}
use denote.Plain.{uint_vals, uint_Tells}
use denote.RawPtr.{Ptr, block_ptr, null_ptr, ptr_val, rawptr_vals, rawptr_Tells}
use denote.Ref.{shr_vals}
use denote.Signature.{Slot, plain, types_at}
use denote.Steps.{heard, nothing}
use denote.Triple.Call.{calls_at}
use denote.Triple.Clauses.{Ended, Clauses}
use denote.Triple.Spec.{triple_of}
use denote.Triple.Statement.{Triple}
use denote.Triple.Table.{entered}
use denote.Triple.Walked.{Stays, stay_dropped, walk_of, ends_at, walked, Goes-dropped, walk_Meets}
use Rattle.std.proofs.alloc.Calls.{Al, α, seen, token, gives_key, Gives, at_gives, Gives-goes, Gives-Gives}
use Rattle.test_support.specs.contracts.allocator.Refusing as R
use Rattle.test_support.specs.contracts.allocator.RefusingAllocator.deallocate as F
use Rattle.test_support.specs.contracts.allocator.RefusingAllocator.deallocate.Key as key
use Rattle.test_support.proofs.allocator.RefusingAllocator.deallocate.Statement.{statement}
use Rattle.test_support.proofs.allocator.RefusingAllocator.deallocate.Code as code

-- The function, for an inner allocator.
module _ (Z : Al) where
  abbrev args : Args
  args = bounded (a_type ∷ []) (Z.row, tt) (dcons Z.d (dcons Z.drops dnil))

  abbrev body : Fn
  body = inst_fn args code.function

  abbrev self : Slot 2
  self = RefOf (0 ∷ []) tt (plain (λ _. R.the_row (param 0 Z.row))) (λ _. tt)

  abbrev pointer : Slot 2
  pointer = plain (λ _. RawPtr)

  abbrev number : Slot 2
  number = plain (λ _. usize)

  abbrev ended : Ended
  ended = F.ended Z.row Z.g Z.d Z.drops

  abbrev stayed : Stays ended.signature.params ended.kept
  stayed = (stay_dropped self yes, (stay_dropped pointer yes, (stay_dropped number yes, (stay_dropped number yes, tt))))

module _ (Z : Al) {M : Type 1} {𝓤 : Ura M} (𝓛 : Logic 𝓤) (mem : Memory → SProp 𝓤) (run : Routine → Fun 𝓤) (𝓣 : Tables 𝓤 𝓛.H)
    (gives : Triple 𝓤 (𝓣.C (gives_key Z)) (Gives Z 𝓛 mem run)) where
  open 𝓛 use {H}

  abbrev held : Clauses 𝓤 (ended Z)
  held = F.clauses Z.row Z.g Z.d Z.drops 𝓛 mem run

  -- `κ` is the lifetime of the `&`, and `ρ` outlives it.
  module _ (κ ρ : Lft) (q r : Share) (within : κ ⊑ ρ) (handle : Bor (R.the_row Z.row).Denot) (n a : ℕ) (τ : Ty) where
    abbrev bound : Ptr → (walk_of 𝓛 (ended Z) (stayed Z) held).Ghost
    bound x = (
      (
        (κ, (ρ, tt)),
        (q, (r, tt)),
        (within, tt),
        (handle, (x, (n, (a, tt)))),
        (shr_vals handle, (rawptr_vals x, (vint w64 n ∷ [], (vint w64 a ∷ [], tt)))),
      ),
      τ,
    )

    abbrev given_values : Ptr → List Val
    given_values x = vptr handle.ref_ptr.0 handle.ref_ptr.1 ∷ ptr_val x ∷ vint w64 n ∷ vint w64 a ∷ []

    abbrev Done : Ptr → Val → SProp 𝓤
    Done x = (walk_of 𝓛 (ended Z) (stayed Z) held).post (bound x)

    abbrev Asked : Type 0
    Asked = (capped (size τ) ≡ n) × (capped (align τ) ≡ a)

    -- The tokens and the parameters.
    abbrev parameters : Ptr → Item 𝓤
    parameters x = (‵ (flft κ q) ⊛ ‵ (flft ρ r) ⊛ ‵ ftrue) ⊛ ‵ (owns (types_at (ended Z).signature.params (bound x).0.0) (bound x).0.3 (bound x).0.4)

    ends : (x : Ptr) → Sq 𝓛 (‵ (flft κ q) ∷ (‵ (flft ρ r) ⊛ ‵ ftrue) ∷ []) (prop (Done x vunit))
    ends x =
        suffices ! _ (ends_at 𝓛 (ended Z) (stayed Z) held (bound x) vunit tt (tt, (tt, (tt, (tt, tt)))) (tt, (tt, (tt, (tt, tt))))) $
        nothing ! $ feq_i ! (List Val) (vunit ∷ []) (vunit ∷ []) refl $
        nothing ! $ nothing ! $ fjoin ! $ nothing ! $ fjoin ! $ nothing ! $ fjoin ! $ nothing ! $ fjoin ! $ join ! $
        move ! (2 ∷ 3 ∷ []) $ join ! $ join ! $ done !

    walk : n < 2 ^ 64 → a < 2 ^ 64 → (x : Ptr)
        → ent 𝓤 ((walk_of 𝓛 (ended Z) (stayed Z) held).pre (bound x))
        (WpFn 𝓤 H 𝓣.C 𝓣.Λ (body Z) (given_values x) (Done x))
    -- No block is at the null address.
    walk n_fits a_fits null_ptr =
        qed 𝓛 (parameters null_ptr ∷ (raw (fact 𝓤 (ρ ⊑ Z.row.lives)) ⊛ raw (fact 𝓤 Asked) ⊛ ‵ (fsep ffalse (token Z handle.now.inner τ null_ptr))) ∷ []) ∵
        move ! (1 ∷ []) $ split3 ! $ move ! (2 ∷ []) $ fsplit ! $ keep ! (0 ∷ []) $ by ! (never_e 𝓤 _)
    walk n_fits a_fits (block_ptr b o) =
        let x : Ptr = block_ptr b o in
        let h : Z.row.Denot = handle.now.inner in
        let p : ℕ × ℕ = (handle.ref_ptr.0, handle.ref_ptr.1 + up (align (α Z)) 0) in
        let passed : (Gives Z 𝓛 mem run).Ghost = at_gives Z 𝓛 mem run κ q p h b o n a τ in
        qed 𝓛 (parameters x ∷ (raw (fact 𝓤 (ρ ⊑ Z.row.lives)) ⊛ raw (fact 𝓤 Asked) ⊛ ‵ (fsep (froom τ b o) (token Z h τ x))) ∷ []) ∵
        move ! (1 ∷ []) $ split3 ! $ heard ! (ρ ⊑ Z.row.lives) (λ lasts. heard ! Asked (λ is_asked. move ! (1 ∷ []) $
        split ! $ split ! $ move ! (2 ∷ []) $ fsplit ! $ fsplit ! $ move ! (1 ∷ []) $ unhide ! $ fsplit ! $ fsplit ! $
        use1 𝓛 (‵ (seen Z κ p h)) (id⊢ 𝓤 _) $ keep ! (0 ∷ 5 ∷ 6 ∷ 7 ∷ []) $
        -- [the inner allocator; the token of κ; the token of ρ; the block and the right to free it]
        enter ! 𝓣.C 𝓣.Λ (body Z) (given_values x) _ $
        alloc_all ! (λ l. pass_all ! refl ((tt, tt), ((tt, tt), ((tt, record { fits = n_fits }), ((tt, record { fits = a_fits }), tt)))) $
        sets ! (addr ! (through ! refl (fld ! refl (stop !)))) refl (tt, tt) $
        join ! $ move ! (2 ∷ []) $ fsplit ! $ move ! (1 ∷ 2 ∷ []) $ join ! $ move ! (1 ∷ []) $ join ! $
        use1 𝓛 (raw ((Gives Z 𝓛 mem run).pre passed))
        (Gives-goes Z 𝓛 mem run κ q p h (⊑_trans κ ρ Z.row.lives within lasts) b o n a τ is_asked.0 is_asked.1
        n_fits a_fits) $
        calls_at ! (fm_of 𝓤 H 𝓛.laws 𝓣) (Gives Z 𝓛 mem run) gives passed
        (and_then ! (get ! refl) (and_then ! (get ! refl)
        (and_then ! (get ! refl) (and_then ! (get ! refl) (no_more !))))) (λ v.
        use1 𝓛 (later (given (v ≡ vunit) (‵ (flft κ q)))) (Gives-Gives Z 𝓛 mem run κ q p h b o n a τ v) $ await ! tt $ learn ! (λ is.
        lands_as ! is refl (tt, tt) $ sets ! (of_opd ! (unit_lit !)) refl (tt, tt) $
        returns ! (look_at ! 0 refl) $ free_all ! refl $ ends x)))))

pub deallocate_spec : {M : Type 1} → statement M
unfolding tables_of
deallocate_spec 𝓤 𝓛 𝓜 𝓡 wired B laws g d drops met _ =
    let Z : Al = record { row = B; laws = laws; g = g; d = d; drops = drops } in
    let 𝓣 : Tables 𝓤 𝓛.H = tables_of 𝓤 𝓛.H 𝓜 (tables 𝓤 𝓛.H 𝓜 𝓡 𝓡.env) in
    let c = F.clauses B g d drops 𝓛 𝓜.mem 𝓡.returns in
    let runs = WpFn 𝓤 𝓛.H 𝓣.C 𝓣.Λ (body Z) in
    let gone = Goes-dropped 𝓛 2 (number Z) yes (λ κs x f. refl) in
    entered 𝓤 𝓛.H (triple_of 𝓛 (F.signature B) (F.spec B g d drops 𝓛 𝓜.mem 𝓡.returns)) 𝓣.C 𝓣.Λ (key.name (args Z)) (body Z)
    (code.unfolded 𝓤 𝓛.H 𝓜 𝓡 wired (B, tt) d drops)
    (walk_Meets 𝓛 (ended Z) (stayed Z) (
      Goes-dropped 𝓛 2 (self Z) yes (λ κs x f. refl),
      (Goes-dropped 𝓛 2 (pointer Z) yes (λ κs x f. refl), (gone, (gone, tt))),
    ) c runs
    (WpFn-mono 𝓤 𝓛.H 𝓛.laws 𝓣 (body Z))
    (walked 𝓛 (ended Z) (stayed Z) c runs (λ κs. (shr_vals, (rawptr_vals, (uint_vals w64, (uint_vals w64, tt)))))
    (λ κs. ((λ r vs s. s.0), (rawptr_Tells, (uint_Tells w64, (uint_Tells w64, tt)))))
    (λ κs qs bounds a τ are. walk Z 𝓛 𝓜.mem 𝓡.returns 𝓣 (met.deallocate drops) κs.0 κs.1.0 qs.0 qs.1.0 bounds.0 a.0
    a.1.1.0 a.1.1.1.0 τ are.1.1.0.1 are.1.1.1.0.1 a.1.0)))
