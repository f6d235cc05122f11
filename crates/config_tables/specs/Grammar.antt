-- The keys of each table: which have to be there, and what stands at them.
use Rattle.std.specs.Prelude.{ℕ, List, [], ◌∷◌, true, false, pos}
use Rattle.config_tables.specs.declared.place.Part.TheVariants as part
use Rattle.config_tables.specs.declared.place.Place.{Place}
use Rattle.config_tables.specs.declared.place.Place.TheVariants as place
use Rattle.config_tables.specs.declared.key.Key.{Key}
use Rattle.config_tables.specs.declared.key.Key.TheVariants as key
use Rattle.config_tables.specs.declared.grammar.Choice.TheVariants as choice
use Rattle.config_tables.specs.declared.grammar.Spelling.TheVariants as spelling
use Rattle.config_tables.specs.declared.grammar.Spelling.TheVariants.{Word, Reference, Hex}
use Rattle.config_tables.specs.declared.grammar.Form.{Form}
use Rattle.config_tables.specs.declared.grammar.Form.TheVariants.{Truth, Number, Text, Table, Tables}
use Rattle.config_tables.specs.declared.grammar.Row.{Row}

abbrev pub required : Key → Form → Row
required key form = record { key = key; is_required = true; form = form }

abbrev pub optional : Key → Form → Row
optional key form = record { key = key; is_required = false; form = form }

-- a number from the first to the second
abbrev pub number : ℕ → ℕ → Form
number least most = Number (pos least) (pos most)

abbrev pub rows_of : Place → List Row
rows_of place.Root =
    required key.Publisher Table
    ∷ optional key.DataSet Tables
    ∷ optional key.KeyGroup Tables
    ∷ optional key.Group Tables
    ∷ optional key.ReadGroup Tables
    ∷ []
rows_of place.Publisher =
    required key.Id (Text spelling.Publisher)
    ∷ optional key.Port (number 0 65535)
    ∷ []
rows_of (place.Outer part.DataSet _) =
    required key.Name (Text spelling.Name)
    ∷ optional key.Major (number 0 4294967295)
    ∷ optional key.Minor (number 0 4294967295)
    ∷ optional key.Quality Truth
    ∷ optional key.Field Tables
    ∷ []
rows_of (place.Inner part.DataSet _ _) =
    required key.Name (Text spelling.Name)
    ∷ required key.Kind (Text (Word choice.Kind))
    ∷ optional key.Cap (number 1 256)
    ∷ []
rows_of (place.Outer part.KeyGroup _) =
    required key.Name (Text spelling.Name)
    ∷ required key.Policy (Text (Word choice.Policy))
    ∷ required key.Random (Text (Hex 8))
    ∷ optional key.FirstBlock (number 0 1)
    ∷ optional key.Used (number 0 4294967295)
    ∷ optional key.Key Tables
    ∷ []
rows_of (place.Inner part.KeyGroup _ _) =
    required key.Token (number 0 4294967295)
    ∷ required key.From (number 0 1099511627776)
    ∷ required key.Signing (Text (Hex 64))
    ∷ required key.Encrypting (Text spelling.KeyHex)
    ∷ required key.Nonce (Text (Hex 8))
    ∷ []
rows_of (place.Outer part.Group _) =
    required key.Name (Text spelling.Name)
    ∷ required key.Id (number 1 65535)
    ∷ required key.Interval (number 1 3600000)
    ∷ optional key.MaxSize (number 128 65000)
    ∷ optional key.Layout (Text (Word choice.Layout))
    ∷ optional key.Security (Text (Word choice.Security))
    ∷ optional key.KeyGroup (Text (Reference part.KeyGroup))
    ∷ optional key.Version (number 0 4294967295)
    ∷ optional key.Sequence Truth
    ∷ optional key.MessageNumber Truth
    ∷ optional key.ClassId (Text spelling.Guid)
    ∷ optional key.Writer Tables
    ∷ []
rows_of (place.Inner part.Group _ _) =
    required key.Name (Text spelling.Name)
    ∷ required key.Id (number 1 65535)
    ∷ required key.DataSet (Text (Reference part.DataSet))
    ∷ optional key.KeyFrameCount (number 1 65535)
    ∷ optional key.KeepAlive (number 0 3600000)
    ∷ optional key.FirstNumber (number 0 65535)
    ∷ optional key.Versions Truth
    ∷ optional key.Offset (number 0 65000)
    ∷ optional key.Size (number 0 65000)
    ∷ []
rows_of (place.Outer part.ReadGroup _) =
    required key.Name (Text spelling.Name)
    ∷ required key.Publisher (Text spelling.Publisher)
    ∷ optional key.Group (number 0 65535)
    ∷ optional key.Version (number 0 4294967295)
    ∷ optional key.ClassId (Text spelling.Guid)
    ∷ optional key.Layout (Text (Word choice.Layout))
    ∷ optional key.Security (Text (Word choice.Security))
    ∷ optional key.KeyGroup (Text (Reference part.KeyGroup))
    ∷ optional key.Reader Tables
    ∷ []
rows_of (place.Inner part.ReadGroup _ _) =
    required key.Name (Text spelling.Name)
    ∷ required key.Writer (number 1 65535)
    ∷ required key.DataSet (Text (Reference part.DataSet))
    ∷ optional key.Timeout (number 0 3600000)
    ∷ optional key.Numbering (Text (Word choice.Numbering))
    ∷ optional key.Offset (number 0 65000)
    ∷ optional key.Size (number 0 65000)
    ∷ []
