-- Cited by contracts.
-- Places of checks, and how walks over code count.
use Rattle.std.specs.Prelude.{ℕ, suc, ◌+◌, ◌-◌, ◌^◌, min}
use Rattle.licence.specs.Checks.{Site}
use Rattle.licence.specs.declared.site.Site.{Site as DeclaredSite}

-- the plain data of a place
abbrev pub site_of : DeclaredSite → Site
site_of s = record { func = s.func; block = s.block; place = s.place }

abbrev pub next_place : Site → Site
next_place s = record { func = s.func; block = s.block; place = suc s.place }

-- the next constructor, as the code counts
abbrev pub next_con : ℕ → ℕ
next_con con = min (con + 1) (2 ^ 32 - 1)
