-- The catalogue in the parts that are held.
use Rattle.std.specs.Prelude.{List}
use Rattle.laptop.specs.Catalogue.{Entry, Catalogue, entries_from}
use Rattle.catalogue.specs.Bytes.{catalogue_of}
use Rattle.catalogue.specs.declared.parts.Parts.{Parts}

abbrev pub entries_of : Parts → List Entry
entries_of p = entries_from 0 p.svids.now p.modes.now p.run.now

abbrev pub catalogue_in_parts : Parts → Catalogue
catalogue_in_parts p = catalogue_of p.objects.now p.svids.now p.modes.now p.run.now
