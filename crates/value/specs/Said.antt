-- A version as the code hands it on, and which version that is.
use Rattle.value.specs.Versions.{version, Version as Meant}
use Rattle.value.specs.declared.version.Version.{Version}

abbrev pub said : Version → Meant
said v = version v.key.now v.moment v.gone v.value.now
