-- A player's hands and cells by their indexes.
use Rattle.std.proofs.Common.{◌≡◌, ◌≢◌, ℕ, ◌<◌, List, length, map, get_or, set, sym, ap, ◌∙◌, arith, get_or-set_same, get_or-set_other, length-set}
use Rattle.std.proofs.lemmas.List.{length-map, get_or-map, map-set}
use lib.ListN.{get_or-map as get_or-mapped}
use Rattle.dataset_meta.specs.Metas.{MetaData}
use Rattle.version_cell.specs.Cells.{CellData}
use Rattle.version_cell.specs.Sets.{cell_at, no_cell}
use Rattle.ps_config.specs.declared.parts.Config.{Config}
use Rattle.ps_script.specs.declared.script.Script.{Script}
use Rattle.session_model.specs.Steps.{Plan, Step}
use Rattle.session_model.specs.Sets.{meta_in}
use Rattle.pubsub_engine.specs.Standing.{Stands}
use Rattle.script_player.specs.declared.hand.Hand.{Hand}
use Rattle.script_player.specs.declared.player.Player.{Player}
use Rattle.script_player.specs.Plays.{plan_by}
use Rattle.script_player.specs.Player.{ChangesHand, IsPlayer, config_of}

-- ---- hands, of which one changes

module _ (thread : ℕ) (old new : List Hand) (hand after : Hand) (c : ChangesHand thread old new hand after) (lt : thread < length old) where
  pub count_same : length new ≡ length old
  count_same = ap length c.hands ∙ length-set old thread after

  pub at_old : {B : Type 0} (f : Hand → B) (d : B) → get_or (map f old) thread d ≡ f hand
  at_old f d = get_or-map f old thread hand d lt ∙ ap f (c.was hand)

  pub at_new : {B : Type 0} (f : Hand → B) (d : B) → get_or (map f new) thread d ≡ f after
  at_new {B} f d =
      get_or-map f new thread after d (let e = count_same in omega arith) ∙ ap f (ap (λ (l : List Hand). get_or l thread after) c.hands ∙ get_or-set_same old thread after after lt)

  pub at_other : {B : Type 0} (f : Hand → B) (d : B) (t : ℕ) → t ≢ thread → get_or (map f new) t d ≡ get_or (map f old) t d
  at_other {B} f d t ne =
      ap (λ (l : List Hand). get_or (map f l) t d) c.hands ∙ ap (λ (l : List B). get_or l t d) (map-set f old thread after) ∙ get_or-set_other (map f old) thread t (f after) d ne

-- ---- cells

module _ (config : Config) (script : Script) (steps : List Step) (player : Player) (is : IsPlayer player) (stands : Stands (plan_by config script) steps player.session) where
  pub config_is : config_of player ≡ config
  config_is = ap (λ (q : Plan). q.config) stands.plan

  pub metas_are : map (λ cell. cell.meta) player.bank ≡ script.metas
  metas_are = is.bank.metas ∙ ap (λ (q : Plan). q.full) stands.plan

  pub count_cells : length player.bank ≡ length script.metas
  count_cells = sym (length-map player.bank (λ (cell : CellData). cell.meta)) ∙ ap length metas_are

  pub cell_meta : (set : ℕ) → (cell_at player.bank set).meta ≡ meta_in script.metas set
  cell_meta set = sym (get_or-mapped (λ (cell : CellData). cell.meta) player.bank set no_cell) ∙ ap (λ (l : List MetaData). meta_in l set) metas_are
