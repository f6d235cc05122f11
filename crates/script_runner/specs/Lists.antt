-- What each thread of a script has to do.
use Rattle.std.specs.Prelude.{ℕ, ◌==◌, List, [], ◌∷◌, if◌then◌else◌}
use Rattle.std.specs.List.{flat_map}
use Rattle.app_threads.specs.declared.item.Item.{Item}
use Rattle.app_threads.specs.declared.item.Item.TheVariants as items
use Rattle.ps_script.specs.declared.script.Act.{Act}
use Rattle.ps_script.specs.declared.script.Act.TheVariants as act
use Rattle.ps_script.specs.declared.script.Line.{Line}

-- a thread's write or watch
abbrev pub item_by : ℕ → Act → List Item
item_by thread (act.Write writer set patch) = if writer == thread then items.Write set patch ∷ [] else []
item_by thread (act.Watch watcher reader times) = if watcher == thread then items.Watch reader times ∷ [] else []
item_by thread _ = []

-- a thread's writes and watches, in the order of the lines
abbrev pub items_by : ℕ → List Line → List Item
items_by thread lines = flat_map (λ line. item_by thread line.act) lines

abbrev pub watch_by : ℕ → Act → List (ℕ × ℕ)
watch_by thread (act.Watch watcher reader times) = if watcher == thread then (reader, times) ∷ [] else []
watch_by thread _ = []

-- the reader and the times of each of a thread's watches, in the order of the lines
abbrev pub watches_by : ℕ → List Line → List (ℕ × ℕ)
watches_by thread lines = flat_map (λ line. watch_by thread line.act) lines
