-- `into_loose` hands what the slot owns to a `Loose`.
use Rattle.std.proofs.Common.{◌≡◌, List, [], ◌∷◌, ◌++◌, refl, sym, ap, ◌∙◌, subst}
use mir.Raw.{raw as bare}
use mir.Val.{Val, vptr}
use base.Logic.{SProp, ent, emp, never, id⊢, fst∗}
use prog.Wp.{WpFn}
use types.Logic.{sem}
use types.Kit.{‵, raw, ◌⊛◌, ◌$◌, ◌∵◌, !, qed, by, move, drop, keep, use0, split, fsplit, fjoin, rewrite, suffices}
use types.Part.{agg, whole, sub}
use types.Run.{stop, fld, of_opd, no_more, and_then, returns, enter}
use types.ByLocal.{alloc_all, pass_all, free_all, look_at, get, get_in, sets}
use contract.Monad.{fact, fact_i}
use contract.Running.{tables}
use denote.Exit.{yes}
use denote.RattleType.{RattleType, owns}
use denote.Memory.{lone}
use denote.Signature.{types_at, plain}
use denote.RawPtr.{Ptr, block_ptr, null_ptr, ptr_val, in_a_block}
use denote.Steps.{nothing, heard}
use denote.Param.{layout}
use denote.Triple.Entry.{alive}
use denote.Triple.Walked.{Stays, stay_dropped, walk_of, Goes-dropped}
use Rattle.core.proofs.alloc.Calls.{Goes-blank}
use Rattle.core.proofs.cell.Inside.{one}
use Rattle.libc.specs.Heap.{chunk}
use Rattle.std.specs.Prelude.{IsSome}
use Rattle.std.specs.declared.option.Option.{Option}
use Rattle.std.specs.declared.option.Option.TheVariants.{Some}
use Rattle.std.specs.contracts.alloc.Global as heap
use Rattle.std.proofs.alloc.Global.TheLaws as heap_laws
use Rattle.std.specs.contracts.impls.GlobalAllocator.TheImpl.{ghosts}
use Rattle.std.proofs.raw_atomic.Walks.{proved_at, leaves}
use Rattle.std_alloc.specs.Box.Ownership.{box_owns}
use Rattle.uapubsub_c.specs.declared.kept.Kept.{Kept}
use Rattle.uapubsub_c.specs.contracts.kept.Kept.{the_row as R}
use Rattle.uapubsub_c.specs.contracts.slot.Slot.{the_row as Slot}
use Rattle.uapubsub_c.specs.Holding.{held_by}
use Rattle.uapubsub_c.proofs.SlotValues.{alone, slot_out, value_in}
use Rattle.uapubsub_c.proofs.LooseValues.{both, loose_good, loose_in}
use Rattle.uapubsub_c.specs.contracts.slot.Slot.into_loose.{ended, clauses}
use Rattle.uapubsub_c.specs.contracts.slot.Slot.into_loose.Key.{name as #self}
use Rattle.uapubsub_c.proofs.slot.Slot.into_loose.Statement.{statement}
use Rattle.uapubsub_c.proofs.slot.Slot.into_loose.Code as code

pub into_loose_spec : {M : Type 1} → statement M
into_loose_spec 𝓤 𝓛 𝓜 𝓡 wired =
    let H = 𝓛.H in let 𝓣 = tables 𝓤 H 𝓜 𝓡 𝓡.env in let c = clauses 𝓛 𝓜.mem 𝓡.returns in let fn = code.function in
    let Z : RattleType = heap.the_row in let LZ = heap_laws.the_row_laws in
    let hs : Stays ended.signature.params ended.kept = (stay_dropped (plain (λ _. Slot)) yes, (stay_dropped (plain (λ _. Z)) yes, tt)) in
    proved_at 𝓛 ended hs c 𝓜 𝓡 (Goes-blank 𝓛 0 (plain (λ _. Slot)) yes (λ κs x f. tt), (Goes-dropped 𝓛 0 (plain (λ _. Z)) yes (λ κs x f. refl), tt)) #self fn (code.unfolded 𝓤 H 𝓜 𝓡 wired) (λ z are.
    let Post : Val → SProp 𝓤 = (walk_of 𝓛 ended hs c).post z in let Run : List Val → SProp 𝓤 = λ ws. WpFn 𝓤 H 𝓣.C 𝓣.Λ fn ws Post in
    let d = z.0.3.0 in let a = z.0.3.1.0 in
    let h = one (layout Z) z.0.4.1.0 ((LZ.lawful 𝓛).typed a z.0.4.1.0 are.1.0) in
    qed 𝓛 ((raw (alive 𝓛 ended.signature z.0.0 z.0.1) ⊛ ‵ (owns (types_at ended.signature.params z.0.0) z.0.3 z.0.4)) ∷ raw (fact 𝓤 (IsSome d.held)) ∷ []) ∵
    move ! (1 ∷ []) $ heard ! (IsSome d.held) (λ there. let some = value_in d.held there in let x : Kept = some.0 in let is : d.held ≡ Some x = some.1 in split ! $ move ! (1 ∷ []) $ fsplit ! $ slot_out ! d z.0.4.0 (λ ws.
    -- [the box; the allocator; the tokens]
    rewrite ! 0 (λ (o : Option Kept). ‵ (held_by R d.at o)) is refl $
    in_a_block ! d.at (λ p. box_owns chunk R p x) (fst∗ 𝓤 (never 𝓤) (sem 𝓛 (chunk (bare (lone R.mir)) null_ptr))) (λ b o e.
    move ! (1 ∷ []) $ fsplit ! $ rewrite ! 0 (λ (us : List Val). ‵ (Z.own_val a us)) h.1 refl $ move ! (1 ∷ []) $ drop ! $
    let v : Val = alone (vptr b o) in let typed = loose_good R Z LZ ghosts b o h.0 h.2 in
    suffices ! (Run (v ∷ h.0 ∷ [])) (subst (λ (us : List Val). ent 𝓤 (Run (v ∷ h.0 ∷ [])) (Run us)) (sym (λ i. (ws ∙ ap (λ (p : Ptr). alone (ptr_val p) ∷ []) e) i ++ (h.1 i ++ []))) (id⊢ 𝓤 (Run (v ∷ h.0 ∷ [])))) $
    enter ! 𝓣.C 𝓣.Λ fn (v ∷ h.0 ∷ []) Post $ alloc_all ! (λ l. pass_all ! refl ((tt, (tt, tt)), (h.2, tt)) $
    sets ! (of_opd ! (get_in ! (fld ! refl (stop !)) (sub ! 0 refl (whole !)))) refl (tt, tt) $
    sets ! (of_opd ! (get ! refl)) refl (tt, tt) $
    sets ! (agg ! (and_then ! (get ! refl) (and_then ! (get ! refl) (no_more !)))) refl typed $
    move ! (1 ∷ 0 ∷ []) $ loose_in R Z LZ ghosts ! b o h.0 a x $ use0 𝓛 (raw (fact 𝓤 (d.held ≡ Some x))) (fact_i 𝓤 (d.held ≡ Some x) (emp 𝓤) is) $
    nothing ! $ nothing ! $ fjoin ! $ nothing ! $ fjoin ! $ returns ! (look_at ! 0 refl) $ free_all ! refl $ keep ! (3 ∷ 0 ∷ 2 ∷ 1 ∷ []) $
    by ! (leaves 𝓛 ended hs c z (both (vptr b o) h.0) (record { at = block_ptr b o; alloc = a; value = x }) (_, (tt, tt)) (tt, (tt, tt))))))))
