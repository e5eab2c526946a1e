-- A listing as the list of what it holds.
use Rattle.std.specs.Prelude.{List, take}
use Rattle.listing.specs.declared.Listing.{Listing}

-- the entries in use
abbrev pub listed : {T : Type 0} → Listing T → List T
listed l = take l.len l.items
