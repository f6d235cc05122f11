-- The premises of a session's headline: what may come, and what holds of its turns.
use Rattle.std.specs.Prelude.{◌≡◌, ◌⊎◌, ⊤, ℕ, ◌≤◌, slice_index_or, List, [], ◌∷◌, ◌++◌, Contains, true, Ok}
use Rattle.ua_base.specs.Journal.{Entry, Sent, Got}
use Rattle.dataset_meta.specs.DataValues.{DataValue}
use Rattle.dataset_meta.specs.Metas.{MetaData}
use Rattle.row_words.specs.Belonging.{row_in}
use Rattle.message_guard.specs.Modes.{is_secured}
use Rattle.reader_group.specs.Arrivals.{accepted}
use Rattle.reader_group.specs.Opening.{Opened, verdict}
use Rattle.reader_group.specs.Plain.{Setting}
use Rattle.reader_group.specs.Settings.{setting_of}
use Rattle.writer_group.specs.declared.sampled.Sampled.{Sampled}
use Rattle.writer_group.specs.Turns.{GroupDeed, no_sample}
use Rattle.session_model.specs.Steps.{Plan, Step, Enable, Disable, Append, Tick, Pump}
use Rattle.session_model.specs.Deeds.{deeds, group_past}
use Rattle.session_model.specs.Events.{events, receives}
use Rattle.session_model.specs.Sends.{journal}
use Rattle.session_model.specs.Sets.{meta_in, metas_at}
use Rattle.reader_group.specs.Signed.{IsSignedBy}

-- what each group lived through
abbrev pub pasts_at : Plan → List Step → ℕ → List GroupDeed
pasts_at p steps g = group_past p.config g (deeds p steps)

-- ---- what may come

-- The read group is Operational after these steps, and takes the datagram after the first receives of a pump.
pub record Takes (p : Plan) (r : ℕ) (before : List Step) (first : List Entry) (datagram : List ℕ) : Type 0 where
  pub operational : receives p.config before r ≡ true
  pub opened : Opened
  pub opens : let setting = setting_of p.config r in
      verdict setting.group setting.setup (accepted setting (events p.config r (Pump first ∷ before))) datagram ≡ Ok opened

-- Each datagram that the read group takes was sent before. Of what it refuses nothing is asked: whatever else comes to the port, the promise stands.
abbrev pub TakesWhatWasSent : Plan → ℕ → List Step → Type 0
TakesWhatWasSent p r steps =
    (later before : List Step) (first behind : List Entry) (datagram : List ℕ)
    → steps ≡ later ++ Pump (first ++ Got datagram ∷ behind) ∷ before
    → Takes p r before first datagram → Contains (journal p before) (Sent datagram)

-- H and S, of a link: each received datagram was sent before; where the read group is secured, each that is signed under a key of its ring
abbrev pub IsHonestFor : Setting → List Entry → Type 0
IsHonestFor setting journal =
    (before after : List Entry) (datagram : List ℕ) → journal ≡ before ++ Got datagram ∷ after
    → (is_secured setting.setup.mode ≡ true → IsSignedBy setting.setup.keys datagram) → Contains before (Sent datagram)

-- ---- samples

-- some tick had this sample of the data set, which had these fields then
abbrev pub HasSample : Plan → List Step → ℕ → MetaData → Sampled → Type 0
HasSample p [] index now sample = ⊥
HasSample p (Enable id ∷ before) index now sample = HasSample p before index now sample
HasSample p (Disable id ∷ before) index now sample = HasSample p before index now sample
HasSample p (Append set field ∷ before) index now sample = HasSample p before index now sample
HasSample p (Tick ms closing samples done ∷ before) index now sample =
    ((slice_index_or samples index no_sample ≡ sample) × (meta_in (metas_at p.config before) index ≡ now)) ⊎ HasSample p before index now sample
HasSample p (Pump entries ∷ before) index now sample = HasSample p before index now sample

-- the closing tick, of which a session has one at most, sampled this version of the data set
abbrev pub ClosesWith : List Step → ℕ → ℕ → Type 0
ClosesWith [] index version = ⊥
ClosesWith (Enable id ∷ before) index version = ClosesWith before index version
ClosesWith (Disable id ∷ before) index version = ClosesWith before index version
ClosesWith (Append set field ∷ before) index version = ClosesWith before index version
ClosesWith (Tick ms closing samples done ∷ before) index version =
    ((closing ≡ true) × ((slice_index_or samples index no_sample).version ≡ version)) ⊎ ClosesWith before index version
ClosesWith (Pump entries ∷ before) index version = ClosesWith before index version

-- the versions that are sampled of a data set never fall
abbrev pub SamplesRise : Plan → List Step → Type 0
SamplesRise p [] = ⊤
SamplesRise p (Enable id ∷ before) = SamplesRise p before
SamplesRise p (Disable id ∷ before) = SamplesRise p before
SamplesRise p (Append set field ∷ before) = SamplesRise p before
SamplesRise p (Tick ms closing samples done ∷ before) =
    ((index : ℕ) (now : MetaData) (sample : Sampled) → HasSample p before index now sample → sample.version ≤ (slice_index_or samples index no_sample).version)
    × SamplesRise p before
SamplesRise p (Pump entries ∷ before) = SamplesRise p before

-- each sample has the row of its version, with all fields of the data set
abbrev pub AreVersions : Plan → List Step → (ℕ → ℕ → List DataValue) → Type 0
AreVersions p steps rows =
    (index : ℕ) (now : MetaData) (sample : Sampled) → HasSample p steps index now sample
    → row_in (meta_in p.full index).fields sample.row.words ≡ rows index sample.version
