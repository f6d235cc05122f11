-- What a configuration lists.
use Rattle.std.specs.Prelude.{◌≡◌, ℕ, ◌<◌, ◌≤◌, ◌==◌, Bool, true, false, List, [], ◌∷◌, find, length, Option, None, Some, Result}
use Rattle.std.specs.List.{HoldsAt}
use Rattle.ua_binary.specs.Types.{type_of}
use Rattle.dataset_meta.specs.Metas.{MetaData}
use Rattle.ps_config.specs.declared.parts.Config.{Config}
use Rattle.uapubsub_c.specs.Answers.{Answered, Answers, OfConfig}
use Rattle.uapubsub_c.specs.declared.handle.Handle.{Handle}
use Rattle.uapubsub_c.specs.declared.listed.Listed.{Listed}
use Rattle.uapubsub_c.specs.declared.listed.Listed.TheVariants.{DataSets, Fields, Groups, KeyGroups, ReadGroups, Readers, Writers}
use Rattle.uapubsub_c.specs.declared.listing.FieldInfo.{FieldInfo}
use Rattle.uapubsub_c.specs.declared.listing.TheConstants.{MOST_PARTS}
use Rattle.uapubsub_c.specs.declared.status.Status.{Status}
use Rattle.uapubsub_c.specs.declared.status.Status.TheVariants.{Index, NoKind}

-- the lists' numbers: those of include/uapubsub.h
abbrev pub list_number : Listed → ℕ
list_number DataSets = 0
list_number Fields = 1
list_number KeyGroups = 2
list_number Groups = 3
list_number Writers = 4
list_number ReadGroups = 5
list_number Readers = 6

abbrev pub all_lists : List Listed
all_lists = DataSets ∷ Fields ∷ KeyGroups ∷ Groups ∷ Writers ∷ ReadGroups ∷ Readers ∷ []

-- the list that has this number
abbrev pub list_with : ℕ → Option Listed
list_with number = find (λ list. list_number list == number) all_lists

-- the part with this index is there, and is so
pub record HasAt {X : Type 0} (says : X → Type 0) (parts : List X) (index : ℕ) : Type 0 where
  pub within : index < length parts
  pub is : HoldsAt says parts index

-- the list has so many parts: of the data set, the group or the read group with the index `of`
abbrev pub HasCount : Config → Listed → ℕ → ℕ → Type 0
HasCount config DataSets of count = count ≡ length config.dataset
HasCount config Fields of count = HasAt (λ meta. count ≡ length meta.fields) config.dataset of
HasCount config KeyGroups of count = count ≡ length config.keygroup
HasCount config Groups of count = count ≡ length config.group
HasCount config Writers of count = HasAt (λ group. count ≡ length group.writer) config.group of
HasCount config ReadGroups of count = count ≡ length config.readgroup
HasCount config Readers of count = HasAt (λ group. count ≡ length group.reader) config.readgroup of

-- the part with this index has this name
abbrev pub IsNamed : Config → Listed → ℕ → ℕ → List ℕ → Type 0
IsNamed config DataSets of index name = HasAt (λ meta. meta.name ≡ name) config.dataset index
IsNamed config Fields of index name = HasAt (λ meta. HasAt (λ field. field.name ≡ name) meta.fields index) config.dataset of
IsNamed config KeyGroups of index name = HasAt (λ keygroup. keygroup.name ≡ name) config.keygroup index
IsNamed config Groups of index name = HasAt (λ group. group.name ≡ name) config.group index
IsNamed config Writers of index name = HasAt (λ group. HasAt (λ writer. writer.name ≡ name) group.writer index) config.group of
IsNamed config ReadGroups of index name = HasAt (λ group. group.name ≡ name) config.readgroup index
IsNamed config Readers of index name = HasAt (λ group. HasAt (λ reader. reader.name ≡ name) group.reader index) config.readgroup of

-- of the list with this number it's so
pub record OfList (number : ℕ) (says : Listed → Type 0) : Type 0 where
  pub list : Listed
  pub list_is : list_with number ≡ Some list
  pub is : says list

-- no list has this number; or there is one that has it, and it isn't so
abbrev pub IsNot : ℕ → (Listed → Type 0) → Status → Type 0
IsNot number says NoKind = list_with number ≡ None
IsNot number says Index = OfList number (λ list. ¬ says list)
IsNot number says other = ⊥

abbrev pub TellsCount : ℕ → ℕ → Config → Result ℕ Status → Type 0
TellsCount number of config answer =
    Answers (λ count. OfList number (λ list. HasCount config list of count)) (IsNot number (λ list. (count : ℕ) × HasCount config list of count)) answer

-- an index below 256 of a part of this name
pub record HasNamed (config : Config) (list : Listed) (of : ℕ) (name : List ℕ) : Type 0 where
  pub index : ℕ
  pub low : index < MOST_PARTS
  pub is : IsNamed config list of index name

abbrev pub TellsIndex : ℕ → ℕ → List ℕ → Config → Result ℕ Status → Type 0
TellsIndex number of name config answer =
    Answers (λ index. OfList number (λ list. IsNamed config list of index name)) (IsNot number (λ list. HasNamed config list of name)) answer

abbrev pub TellsName : ℕ → ℕ → ℕ → Config → Result (List ℕ) Status → Type 0
TellsName number of index config answer =
    Answers (λ name. OfList number (λ list. IsNamed config list of index name))
    (IsNot number (λ list. (name : List ℕ) × IsNamed config list of index name)) answer

-- C sees this of the name
pub record GetsName (number of index : ℕ) (old : Handle) (sees : Result (List ℕ) Status → Type 0) (new : Handle) : Type 0 where
  pub answer : Result (List ℕ) Status
  pub answered : Answered (OfConfig (TellsName number of index)) old answer new
  pub seen : sees answer

abbrev pub truth_number : Bool → ℕ
truth_number false = 0
truth_number true = 1

-- what the field with this index is
pub record IsInfoOf (meta : MetaData) (index : ℕ) (info : FieldInfo) : Type 0 where
  pub within : index < length meta.fields
  pub kind_is : HoldsAt (λ field. info.kind ≡ type_of field.kind) meta.fields index
  pub cap_is : HoldsAt (λ field. info.cap ≡ field.cap) meta.fields index
  pub quality_is : info.quality ≡ truth_number meta.quality

-- there is no such data set or field
abbrev pub IsNoField : ℕ → ℕ → Config → Status → Type 0
IsNoField set field config Index = set < length config.dataset → HoldsAt (λ meta. length meta.fields ≤ field) config.dataset set
IsNoField set field config other = ⊥

abbrev pub TellsField : ℕ → ℕ → Config → Result FieldInfo Status → Type 0
TellsField set field config answer = Answers (λ info. HasAt (λ meta. IsInfoOf meta field info) config.dataset set) (IsNoField set field config) answer
