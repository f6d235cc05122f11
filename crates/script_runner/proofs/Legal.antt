-- What a session has seen that met what each thread left is a legal history of the script.
use Rattle.std.proofs.Common.{◌≡◌, ℕ, List, [], map, ap, ◌∙◌, subst, arith}
use Rattle.std.specs.List.{range_with_len}
use Rattle.std.proofs.lemmas.List.{get_or-map, length-map}
use Rattle.std.proofs.lemmas.List.FromFn.{fill_by_all}
use Rattle.dataset_meta.specs.Metas.{MetaData}
use Rattle.row_words.specs.declared.patch.Patch.{Patch}
use Rattle.pubsub_model.specs.History.{IsLegal, legal_history}
use Rattle.version_cell.specs.Cells.{CellData}
use Rattle.version_cell.specs.Histories.{history_of}
use Rattle.version_cell.specs.Known.{Known}
use Rattle.version_cell.specs.Sets.{cell_at}
use Rattle.app_threads.specs.declared.done.Done.{Done}
use Rattle.app_threads.specs.declared.item.Item.{Item}
use Rattle.app_threads.specs.Closing.{IsClosed, IsJoined, lists_of, meanings, threads_of}
use Rattle.app_threads.specs.Duties.{Duty, no_duty}
use Rattle.app_threads.specs.Items.{patches_in}
use Rattle.app_threads.proofs.Joining.{joined_closed}
use Rattle.ps_config.specs.declared.parts.Config.{Config}
use Rattle.ps_script.specs.declared.script.Script.{Script}
use Rattle.ps_script.specs.Sessions.{patches_of}
use Rattle.session_model.specs.Sets.{meta_in}
use Rattle.script_runner.specs.Ended.{AreDutiesOf}
use Rattle.script_runner.specs.Legal.{IsLegalLog}
use Rattle.script_runner.proofs.Items.{patches-are}

-- what the law of closed histories says
pub record ClosedHistoriesAreLegal : Type 0 where
  pub legal : (cell : CellData) (p : Known) (lists : List (List Patch)) → IsClosed cell p lists → IsLegal (threads_of p.seen) (meanings cell.meta.fields lists)
  pub history : (cell : CellData) (p : Known) (lists : List (List Patch)) → IsClosed cell p lists
      → history_of cell.meta.fields p.seen ≡ legal_history cell.meta.fields (meanings cell.meta.fields lists) (threads_of p.seen)

module _ (config : Config) (script : Script) (bank targets : List CellData) (duties : List Duty) (are : AreDutiesOf config script bank targets duties) where
  -- the lists of the threads are those of the script
  lists-are : (set : ℕ) → lists_of set duties ≡ map (λ (thread : ℕ). patches_of thread set script.lines) (range_with_len 0 8)
  lists-are set =
      fill_by_all (λ (thread : ℕ). patches_of thread set script.lines) (lists_of set duties) 8 [] (length-map duties (λ (d : Duty). patches_in set d.list) ∙ are.eight)
      (λ k lt.
      get_or-map (λ (d : Duty). patches_in set d.list) duties k no_duty [] (let e = are.eight in omega (arith, lt, e))
      ∙ ap (λ (l : List Item). patches_in set l) (are.lists k lt)
      ∙ patches-are k set script.lines)

  pub legal-log : ClosedHistoriesAreLegal → (dones : List Done) (set : ℕ) (p : Known) → IsJoined bank targets duties dones set p
      → (cell_at bank set).meta ≡ meta_in script.metas set → IsLegalLog script set p.seen
  legal-log laws dones set p joined meta =
      let closed = joined_closed bank targets duties dones set p joined in
      let cell = cell_at bank set in
      record {
        legal = subst (λ (x : MetaData × List (List Patch)). IsLegal (threads_of p.seen) (meanings x.0.fields x.1)) (λ i. (meta i, lists-are set i))
            (laws.legal cell p (lists_of set duties) closed);
        history = subst (λ (x : MetaData × List (List Patch)). history_of x.0.fields p.seen ≡ legal_history x.0.fields (meanings x.0.fields x.1) (threads_of p.seen))
            (λ i. (meta i, lists-are set i)) (laws.history cell p (lists_of set duties) closed);
      }
