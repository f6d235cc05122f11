-- One item more, for a reader with numbering by message and for one with none.
use Rattle.std.proofs.Common.{◌≡◌, sym, subst, ℕ, List, [], ◌∷◌, Option}
use Rattle.pubsub_model.specs.declared.reading.Why.{Why}
use Rattle.pubsub_model.specs.Records.{Item, Arrival, Cut}
use Rattle.frame_codec.specs.Frames.{Frame}
use Rattle.dataset_reader.specs.declared.took.Numbering.{Numbering}
use Rattle.dataset_reader.specs.declared.took.Numbering.TheVariants as numberings
use Rattle.dataset_reader.specs.Kept.{Kept, fresh, cut_kept}
use Rattle.dataset_reader.specs.Cases.{frame_case}
use Rattle.dataset_reader.specs.Keeping.{KeepsBy, IsNextItem, came_on_by}
use Rattle.dataset_reader.proofs.RunLaws.{keeps-frame, unnumbered-frame, keeps-cut, unnumbered-cut, keeps-fresh, unnumbered-fresh}

pub keeps_by-fresh : (numbering : Numbering) → KeepsBy numbering [] fresh
keeps_by-fresh numberings.Message = keeps-fresh
keeps_by-fresh numberings.Unnumbered = unnumbered-fresh

pub keeps_by-cut : (numbering : Numbering) (arrivals : List Arrival) (k : Kept) (why : Why) → KeepsBy numbering arrivals k → KeepsBy numbering (Cut why ∷ arrivals) (cut_kept why k)
keeps_by-cut numberings.Message arrivals k why h = keeps-cut arrivals k why h
keeps_by-cut numberings.Unnumbered arrivals k why h = unnumbered-cut arrivals k why h

item_on : (numbering : Numbering) (major : ℕ) (arrivals : List Arrival) (k : Kept) (item : Item) (message : Frame) (stamp : Option ℕ) → IsNextItem numbering major arrivals item message stamp
    → KeepsBy numbering arrivals k → KeepsBy numbering (came_on_by numbering arrivals item) (frame_case numbering major k message item.stamp).0
item_on numberings.Message major arrivals k item message stamp next h = keeps-frame major arrivals k item message next.brings next.near h
item_on numberings.Unnumbered major arrivals k item message stamp next h = unnumbered-frame major arrivals k item message next.brings.0 next.brings.1 h

pub keeps_by-frame : (numbering : Numbering) (major : ℕ) (arrivals : List Arrival) (k : Kept) (item : Item) (message : Frame) (stamp : Option ℕ) → IsNextItem numbering major arrivals item message stamp
    → KeepsBy numbering arrivals k → KeepsBy numbering (came_on_by numbering arrivals item) (frame_case numbering major k message stamp).0
keeps_by-frame numbering major arrivals k item message stamp next h =
    subst (λ (s : Option ℕ). KeepsBy numbering (came_on_by numbering arrivals item) (frame_case numbering major k message s).0) next.stamp_is
    (item_on numbering major arrivals k item message stamp next h)

-- and so does what keeps the same
pub keeps_by-after : (numbering : Numbering) (major : ℕ) (arrivals : List Arrival) (k now : Kept) (item : Item) (message : Frame) (stamp : Option ℕ) → now ≡ (frame_case numbering major k message stamp).0
    → IsNextItem numbering major arrivals item message stamp → KeepsBy numbering arrivals k → KeepsBy numbering (came_on_by numbering arrivals item) now
keeps_by-after numbering major arrivals k now item message stamp is next h =
    subst (λ (x : Kept). KeepsBy numbering (came_on_by numbering arrivals item) x) (sym is) (keeps_by-frame numbering major arrivals k item message stamp next h)
