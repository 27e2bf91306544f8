-- What a sheet says.
use Rattle.listing.specs.Yards.{Yard}
use Rattle.listing.specs.Listings.{yard as listed_yard}
use Rattle.sheet.specs.declared.sheet.Sheet.{Sheet}

abbrev pub yard : Sheet → Yard
yard s = listed_yard s.listing
