-- The built-in configuration, and the text that it is.
use Rattle.std.specs.Prelude.{◌++◌, ℕ, true, false, List, [], ◌∷◌, codes, None}
use Rattle.ua_values.specs.declared.kind.Kind.TheVariants.{UInt32}
use Rattle.dataset_meta.specs.declared.field.Field.{Field}
use Rattle.dataset_meta.specs.Metas.{MetaData, meta_of}
use Rattle.config_tables.specs.declared.publisher.Publisher.TheVariants.{U8}
use Rattle.config_tables.specs.declared.words.Layout.TheVariants as layout
use Rattle.config_tables.specs.declared.words.Security.TheVariants as security
use Rattle.config_tables.specs.declared.words.NumberingWord.TheVariants as numbering
use Rattle.ps_config.specs.declared.parts.Config.{Config}
use Rattle.ps_config.specs.declared.parts.GroupPart.{GroupPart}
use Rattle.ps_config.specs.declared.parts.WriterPart.{WriterPart}
use Rattle.ps_config.specs.declared.parts.ReadGroupPart.{ReadGroupPart}
use Rattle.ps_config.specs.declared.parts.ReaderPart.{ReaderPart}

-- a field of the kind UInt32
abbrev pub number_field : List ℕ → Field
number_field name = record { name = name; kind = UInt32; cap = 0 }

-- the data set demo
unfoldable pub demo : MetaData
demo =
    meta_of (codes "demo")
    (number_field (codes "a") ∷ number_field (codes "b") ∷ number_field (codes "c") ∷ number_field (codes "d") ∷ [])
    1 0 false

unfoldable pub built_in_writer : WriterPart
built_in_writer = record {
  name = codes "w1";
  id = 1;
  dataset = 0;
  key_frame_count = 1;
  keep_alive = 0;
  first_number = 0;
  versions = false;
  offset = 0;
  size = 0;
}

unfoldable pub built_in_group : GroupPart
built_in_group = record {
  name = codes "g1";
  id = 1;
  interval = 100;
  max_size = 1400;
  layout = layout.Dynamic;
  security = security.None;
  keygroup = None;
  version = 0;
  sequence = true;
  message_number = false;
  class_id = None;
  writer = built_in_writer ∷ [];
}

unfoldable pub built_in_reader : ReaderPart
built_in_reader = record {
  name = codes "r1";
  writer = 1;
  dataset = 0;
  timeout = 0;
  numbering = numbering.Message;
  offset = 0;
  size = 0;
}

unfoldable pub built_in_read_group : ReadGroupPart
built_in_read_group = record {
  name = codes "rg1";
  publisher = U8 5;
  group = 1;
  version = 0;
  class_id = None;
  layout = layout.Dynamic;
  security = security.None;
  keygroup = None;
  reader = built_in_reader ∷ [];
}

-- one data set, a group with a writer of it, and a read group with a reader of that writer
unfoldable pub built_in_config : Config
built_in_config = record {
  publisher = record { id = U8 5; port = 0 };
  dataset = demo ∷ [];
  keygroup = [];
  group = built_in_group ∷ [];
  readgroup = built_in_read_group ∷ [];
}

-- the text of the configuration
abbrev pub built_in_text : List ℕ
built_in_text =
    codes "[publisher]\nid = \"u8:5\"\n\n"
    ++ codes "[[dataset]]\nname = \"demo\"\n[[dataset.field]]\nname = \"a\"\nkind = \"UInt32\"\n[[dataset.field]]\nname = \"b\"\nkind = \"UInt32\"\n"
    ++ codes "[[dataset.field]]\nname = \"c\"\nkind = \"UInt32\"\n[[dataset.field]]\nname = \"d\"\nkind = \"UInt32\"\n\n"
    ++ codes "[[group]]\nname = \"g1\"\nid = 1\ninterval = 100\n[[group.writer]]\nname = \"w1\"\nid = 1\ndataset = \"demo\"\n\n"
    ++ codes "[[readgroup]]\nname = \"rg1\"\npublisher = \"u8:5\"\ngroup = 1\n[[readgroup.reader]]\nname = \"r1\"\nwriter = 1\ndataset = \"demo\"\n"
