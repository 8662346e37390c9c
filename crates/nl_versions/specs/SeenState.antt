-- What contracts see of a folder of another version: nothing of its fields.
use Rattle.nl_folder.specs.FolderView.{FolderView}
use Rattle.nl_folder.specs.declared.folder.Folder.{Ghosts as FolderGhosts}
use Rattle.nl_versions.specs.VersionFolder.{both_counts, seen_as_version}
use Rattle.nl_versions.specs.declared.version_folder.Version.{Ghosts as VersionGhosts}
use Rattle.nl_versions.specs.declared.version_folder.VersionFolder.{VersionFolder}

abbrev pub state_of : {F V : Type 0} {f : FolderGhosts F} {v : VersionGhosts V} → VersionFolder F V f v → FolderView
state_of {f = f} {v = v} folder = record {
  disk = seen_as_version v.version (f.disk folder.folder);
  is_settled = folder.is_settled;
  has_scratch = folder.has_scratch;
  failures = both_counts (f.failures folder.folder) folder.refused;
}
