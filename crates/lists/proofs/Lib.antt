mod QuickLaws
